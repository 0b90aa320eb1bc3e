-- Each constant is the f64 nearest to its decimal: one test that antt computes over the whole list. Assumes nothing.
use mathlib.Core.Path.{sym, subst}
use mathlib.Core.Bool.{Bool, true}
use mathlib.Core.List.Memᴰ
use mathlib.Core.List.{List, [], ◌∷◌, Memᴰ}
use mathlib.Core.Logic.{⊎_elim}
use Prim.Native.Nat.{ℕ, ◌+◌, ◌-◌, ◌*◌, ◌^◌}
use lib.Count.{count_trailing_zeros}
use lib.Dec.{T, ltb, ltb→lt}
use lib.Ieee.{binary64, odd, size, span, climb, of_bits, of_fields, to_bits}
use Rattle.nearest.specs.Nearest.{units}
use Rattle.power.proofs.Table.{both, both_left, both_right}
use Rattle.constants.specs.Constants.{Decimal, IsNearest}
use Rattle.text_units.specs.Units.{decimals}

abbrev pattern : Decimal → ℕ
pattern d = to_bits binary64 d.value

-- twice the middle of a constant and the f64 before it, and of it and the f64 after it
abbrev before : Decimal → ℕ
before d = (units (pattern d - 1) + units (pattern d)) ^ 1 * d.den

abbrev after : Decimal → ℕ
after d = (units (pattern d) + units (pattern d + 1)) ^ 1 * d.den

abbrev exact : Decimal → ℕ
exact d = d.num * (2 ^ 1075) ^ 1

near : Decimal → Bool
near d = both (ltb (before d) (exact d)) (ltb (exact d) (after d))

every : List Decimal → Bool
every [] = true
every (d ∷ ds) = both (near d) (every ds)

test : T (every decimals)
unfolding every near decimals units to_bits odd size span climb of_bits of_fields count_trailing_zeros
test = tt

passed : (d : Decimal) → T (near d) → IsNearest d
unfolding near
passed d t =
    let low = ltb (before d) (exact d) in
    let high = ltb (exact d) (after d) in
    record { above = ltb→lt (before d) (exact d) (both_left low high t); below = ltb→lt (exact d) (after d) (both_right low high t) }

among : (ds : List Decimal) → T (every ds) → (d : Decimal) → Memᴰ d ds → IsNearest d
unfolding every
among [] t d m = absurd (Memᴰ.not-nil m)
among (e ∷ ds) t d m =
    ⊎_elim
    (λ q. subst IsNearest (sym q) (passed e (both_left (near e) (every ds) t)))
    (λ l. among ds (both_right (near e) (every ds) t) d l)
    (Memᴰ.cases_cons m)

pub nearest : (d : Decimal) → Memᴰ d decimals → IsNearest d
nearest d m = among decimals test d m
