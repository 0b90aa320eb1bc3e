-- The sizes of a sound link's numbers, of a flow that is not wild, and of the constants. Assumes nothing.
use mathlib.Core.Path.{◌≡◌, refl, sym, ap, subst}
use mathlib.Core.Bool.{Bool, true, false, ◌&&◌, ◌||◌, true≢false}
use Prim.Native.Nat.{ℕ, zero, suc, ◌*◌, ◌^◌, ◌≤◌, ◌<◌}
use native.Mathlib.Nat.{le_trans, le_of_eq, le_of_lt, mul-one, one-mul}
use lib.Arith.{lt_of_le-ne}
use lib.Count.{count_trailing_zeros}
use lib.IntN.{pos, negsuc, ℤ}
use lib.Dec.{T, ltb, eqb, lt→ltb, lit≤}
use lib.Ieee.{Float, nan, inf, fin, binary64, up, down, odd, of_bits, of_fields, fits, lt, le}
use lib.Ieee.Positive.{positive, above_of_le, le→cross}
use borrow.Author.Tests.{ltb-false, eqb-false}
use Rattle.float.specs.Sign.{abs_of}
use Rattle.float.specs.Order.{wild_of}
use Rattle.fields.specs.Fields.{base_bounds, within}
use Rattle.constants.specs.Constants.{two, big_value, small_value, rq_tol, h_exponent, loss_factor}
use Rattle.closeness.specs.Close.{limit}
use Rattle.conductances.proofs.Grid.{clear, cross, Size, Least}
use Rattle.conductances.proofs.Tests.{positive_of}

-- ---- the constants
pub two_size : Size 1 two
unfolding of_bits of_fields odd count_trailing_zeros
two_size = lit≤ tt

pub two_clear : T (clear two)
unfolding of_bits of_fields odd count_trailing_zeros
two_clear = tt

pub big_size : Size 27 big_value
unfolding of_bits of_fields odd count_trailing_zeros
big_size = lit≤ tt

pub small_size : Size 0 small_value
unfolding of_bits of_fields odd count_trailing_zeros
small_size = lit≤ tt

pub tol_size : Size 0 rq_tol
unfolding of_bits of_fields odd count_trailing_zeros
tol_size = lit≤ tt

pub exponent_size : Size 1 h_exponent
unfolding of_bits of_fields odd count_trailing_zeros
exponent_size = lit≤ tt

pub factor_size : Size 0 loss_factor
unfolding of_bits of_fields odd count_trailing_zeros
factor_size = lit≤ tt

-- ---- at most 2 ^ 40 in magnitude
bound_is : base_bounds.magnitude ≡ fin false 1 (pos 40)
unfolding base_bounds of_bits of_fields odd count_trailing_zeros
bound_is = refl

of_cross : (X p h : ℕ) → X * 1 ≤ 1 * 2 ^ h * p → X ≤ 2 ^ h * p
of_cross X p h l = le_trans (le_of_eq (sym (mul-one X))) (le_trans l (le_of_eq (ap (λ (z : ℕ). z * p) (one-mul (2 ^ h)))))

sized : (x : Float) (h : ℕ) → T (le (abs_of x) (fin false 1 (pos h))) → Size h x
unfolding abs_of le
sized nan h t = absurd t
sized (inf s) h t = absurd t
sized (fin s m e) h t = of_cross (m * up e) (down e) h (cross m e 1 (pos h) t)

pub within_size : (x : Float) → within base_bounds x ≡ true → Size 40 x
unfolding within
within_size x h = sized x 40 (subst (λ (y : Float). T (le (abs_of x) y)) bound_is (subst T (sym h) tt))

-- ---- a diameter of at least 2 ^ -10
diameter_is : base_bounds.diameter ≡ fin false 1 (negsuc 9)
unfolding base_bounds of_bits of_fields odd count_trailing_zeros
diameter_is = refl

from_cross : (d : Float) → T (positive d) → T (le (fin false 1 (negsuc 9)) d) → Least 10 d
from_cross nan p h = absurd p
from_cross (inf s) p h = absurd p
from_cross (fin true m e) p h = absurd p
from_cross (fin false m e) p h = le_trans (le_of_eq (sym (one-mul (down e)))) (le→cross (fin false 1 (negsuc 9)) (fin false m e) tt p h)

at_least : (d : Float) (h : ℕ) → Size h d → T (le (fin false 1 (negsuc 9)) d) → Least 10 d
at_least d h a l = from_cross d (positive_of d h a (above_of_le (fin false 1 (negsuc 9)) d tt l)) l

pub diameter_least : (d : Float) (h : ℕ) → Size h d → le base_bounds.diameter d ≡ true → Least 10 d
diameter_least d h a l = at_least d h a (subst (λ (y : Float). T (le y d)) diameter_is (subst T (sym l) tt))

-- ---- a flow that is not wild
or_first : (a b : Bool) → (a || b) ≡ false → a ≡ false
or_first true b h = absurd (true≢false h)
or_first false b h = refl

or_second : (a b : Bool) → (a || b) ≡ false → b ≡ false
or_second true b h = absurd (true≢false h)
or_second false b h = h

and_first : (a : Bool) → (a && true) ≡ false → a ≡ false
and_first true h = absurd (true≢false h)
and_first false h = refl

below_of : (X Y : ℕ) → (ltb X Y || (eqb X Y && true)) ≡ false → Y < X
below_of X Y h = lt_of_le-ne (ltb-false X Y (or_first (ltb X Y) (eqb X Y && true) h)) (λ (e : Y ≡ X). eqb-false X Y (and_first (eqb X Y) (or_second (ltb X Y) (eqb X Y && true) h)) (sym e))

pub not_le : (m : ℕ) (e : ℤ) (n : ℕ) (d : ℤ) → le (fin false m e) (fin false n d) ≡ false → n * up d * down e < m * up e * down d
unfolding le
not_le m e n d h = below_of (m * up e * down d) (n * up d * down e) h

-- |q| is an f64 below 2 ^ 64
pub tame_below : (q : Float) → wild_of q ≡ false → T (lt (abs_of q) limit)
unfolding wild_of abs_of lt
tame_below nan h = absurd (true≢false h)
tame_below (inf s) h = absurd (true≢false h)
tame_below (fin s m e) h = lt→ltb (m * up e * 1) (1 * 2 ^ 64 * down e) (not_le 1 (pos 64) m e h)

pub tame_size : (q : Float) → wild_of q ≡ false → Size 64 (abs_of q)
unfolding wild_of abs_of
tame_size nan h = absurd (true≢false h)
tame_size (inf s) h = absurd (true≢false h)
tame_size (fin s m e) h = of_cross (m * up e) (down e) 64 (le_of_lt (not_le 1 (pos 64) m e h))

pub tame_clear : (q : Float) → wild_of q ≡ false → T (clear (abs_of q))
unfolding wild_of abs_of
tame_clear nan h = absurd (true≢false h)
tame_clear (inf s) h = absurd (true≢false h)
tame_clear (fin s m e) h = tt

pub abs_fits : (q : Float) → T (fits binary64 q) → T (fits binary64 (abs_of q))
unfolding abs_of fits
abs_fits nan h = h
abs_fits (inf s) h = h
abs_fits (fin s zero e) h = h
abs_fits (fin s (suc m) e) h = h
