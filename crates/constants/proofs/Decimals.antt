-- Each constant is the f64 nearest to its decimal: one test that antt computes over the whole table. Assumes nothing.
use mathlib.Core.Path.{sym, subst}
use mathlib.Core.Bool.{Bool, true}
use mathlib.Core.List.Memᴰ
use mathlib.Core.List.{List, [], ◌∷◌, Memᴰ}
use mathlib.Core.Logic.{⊎_elim}
use Prim.Native.Nat.{ℕ, ◌+◌, ◌-◌, ◌*◌, ◌^◌}
use lib.Count.{count_trailing_zeros}
use lib.Dec.{T, ltb, ltb→lt}
use lib.Ieee.{binary64, odd, size, span, climb, of_bits, of_fields, to_bits}
use Rattle.nearest.specs.Nearest.{units}
use Rattle.tables.proofs.Table.{both, both_left, both_right}
use Rattle.constants.specs.Constants.{Decimal, IsNearest, decimals}

abbrev pattern : Decimal → ℕ
pattern d = to_bits binary64 d.value

low : Decimal → Bool
low d = ltb ((units (pattern d - 1) + units (pattern d)) ^ 1 * d.den) (d.num * (2 ^ 1075) ^ 1)

high : Decimal → Bool
high d = ltb (d.num * (2 ^ 1075) ^ 1) ((units (pattern d) + units (pattern d + 1)) ^ 1 * d.den)

every : List Decimal → Bool
every [] = true
every (d ∷ ds) = both (both (low d) (high d)) (every ds)

test : T (every decimals)
unfolding every low high decimals units to_bits odd size span climb of_bits of_fields count_trailing_zeros
test = tt

passed : (d : Decimal) → T (both (low d) (high d)) → IsNearest d
unfolding low high
passed d t =
    record {
      above = ltb→lt ((units (pattern d - 1) + units (pattern d)) ^ 1 * d.den) (d.num * (2 ^ 1075) ^ 1) (both_left (low d) (high d) t);
      below = ltb→lt (d.num * (2 ^ 1075) ^ 1) ((units (pattern d) + units (pattern d + 1)) ^ 1 * d.den) (both_right (low d) (high d) t);
    }

among : (ds : List Decimal) → T (every ds) → (d : Decimal) → Memᴰ d ds → IsNearest d
unfolding every
among [] t d m = absurd (Memᴰ.not-nil m)
among (e ∷ ds) t d m =
    ⊎_elim
    (λ q. subst IsNearest (sym q) (passed e (both_left (both (low e) (high e)) (every ds) t)))
    (λ l. among ds (both_right (both (low e) (high e)) (every ds) t) d l)
    (Memᴰ.cases_cons m)

pub nearest : (d : Decimal) → Memᴰ d decimals → IsNearest d
nearest d m = among decimals test d m
