-- Each default that is no whole number is the f64 nearest to its decimal. Assumes nothing.
use mathlib.Core.Path.{sym, subst}
use mathlib.Core.List.Memᴰ
use mathlib.Core.List.{Memᴰ}
use mathlib.Core.Logic.{⊎_elim}
use lib.Count.{count_trailing_zeros}
use lib.Dec.{lit<}
use lib.Ieee.{odd, size, span, climb, of_bits, of_fields, to_bits}
use Rattle.nearest.specs.Nearest.{units}
use Rattle.constants.specs.Constants.{Decimal, IsNearest, decimal, tenth}
use Rattle.text_settings.specs.Settings.{thousandth, decimals}

of_thousandth : IsNearest (decimal 1 1_000 thousandth)
unfolding units to_bits odd size span climb of_bits of_fields count_trailing_zeros
of_thousandth = record { above = lit< tt; below = lit< tt }

of_tenth : IsNearest (decimal 1 10 tenth)
unfolding units to_bits odd size span climb of_bits of_fields count_trailing_zeros
of_tenth = record { above = lit< tt; below = lit< tt }

pub nearest : (d : Decimal) → Memᴰ d decimals → IsNearest d
unfolding decimals
nearest d m =
    ⊎_elim (λ q. subst IsNearest (sym q) of_thousandth)
    (λ l. ⊎_elim (λ q. subst IsNearest (sym q) of_tenth) (λ n. absurd (Memᴰ.not-nil n)) (Memᴰ.cases_cons l))
    (Memᴰ.cases_cons m)
