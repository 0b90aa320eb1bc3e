-- What the tests of the rules tell, and one over a number that is at least RQ_TOL and at most 2 ^ 200. Assumes nothing.
use mathlib.Core.Path.{◌≡◌, refl, sym, ap, ◌∙◌, subst}
use mathlib.Core.Bool.{true, false, false≢true}
use Prim.Native.Nat.{ℕ, ◌+◌, ◌*◌, ◌^◌, ◌≤◌, ◌<◌}
use native.Mathlib.Nat.{le_trans, le_of_eq, mul-one, one-mul, mul_comm, mul-pos}
use native.Mathlib.Omega.{arith}
use lib.IntN.{pos, ℤ}
use lib.Count.{count_trailing_zeros}
use lib.Dec.{T, ltb→lt}
use lib.Pow.{pow_pos}
use lib.Ieee.{Float, nan, inf, fin, binary64, up, down, round, units, odd, size, span, climb, of_bits, of_fields, div, lt, le, eq}
use lib.Ieee.Fits.{up_pos, down_pos}
use lib.Ieee.Order.{round_mono, le_of_values}
use lib.Ieee.Positive.{num, den, positive, above, above_of_le, le→cross}
use borrow.Author.Tests.{ltb-false, lt-ltb, ne_eqb}
use Rattle.constants.specs.Arithmetic.{over}
use Rattle.constants.specs.Constants.{zero, one, rq_tol}
use Rattle.barrier.specs.Barrier.{least}
use Rattle.conductances.proofs.Grid.{clear, Size}

-- ---- the constants as values
zero_is : zero ≡ fin false 0 (pos 0)
unfolding of_bits of_fields odd count_trailing_zeros
zero_is = refl

one_is : one ≡ fin false 1 (pos 0)
unfolding of_bits of_fields odd count_trailing_zeros
one_is = refl

pub tol_positive : T (positive rq_tol)
unfolding of_bits of_fields odd count_trailing_zeros
tol_positive = tt

pub tol_rounded : rq_tol ≡ round binary64 false (num rq_tol) (den rq_tol)
unfolding of_bits of_fields odd count_trailing_zeros round units size span climb
tol_rounded = refl

pub tol_itself : T (le rq_tol rq_tol)
unfolding le lt eq of_bits of_fields odd count_trailing_zeros
tol_itself = tt

least_rounded : least ≡ round binary64 false 1 (2 ^ 200)
unfolding round units size span climb odd count_trailing_zeros
least_rounded = refl

-- ---- above zero
below_product : (p q : ℕ) → 0 < q → 0 * p < q * 1
below_product p q h = omega arith

over_zero : (x : Float) → T (above x) → lt (fin false 0 (pos 0)) x ≡ true
unfolding lt
over_zero nan h = absurd h
over_zero (inf true) h = absurd h
over_zero (inf false) h = refl
over_zero (fin true m e) h = absurd h
over_zero (fin false m e) h = lt-ltb (0 * down e) (m * up e * 1) (below_product (down e) (m * up e) (mul-pos (ltb→lt 0 m h) (up_pos e)))

pub above_zero : (x : Float) → T (above x) → lt zero x ≡ true
above_zero x h = subst (λ (z : Float). lt z x ≡ true) (sym zero_is) (over_zero x h)

clear_over : (x : Float) → lt (fin false 0 (pos 0)) x ≡ true → T (clear x)
unfolding lt
clear_over nan h = absurd (false≢true h)
clear_over (inf true) h = absurd (false≢true h)
clear_over (inf false) h = tt
clear_over (fin true m e) h = absurd (false≢true h)
clear_over (fin false m e) h = tt

pub clear_of : (x : Float) → lt zero x ≡ true → T (clear x)
clear_of x h = clear_over x (subst (λ (z : Float). lt z x ≡ true) zero_is h)

-- ---- not below a positive bound
sum_above : (a b : ℕ) → 0 < b → a + b ≤ 0 → ⊥
sum_above a b h k = omega arith

pub from_bound : (lo x : Float) (h : ℕ) → T (positive lo) → Size h x → lt x lo ≡ false → T (le lo x)
unfolding lt
from_bound nan x h p a t = absurd p
from_bound (inf s) x h p a t = absurd p
from_bound (fin true n d) x h p a t = absurd p
from_bound (fin false n d) nan h p a t = absurd a
from_bound (fin false n d) (inf s) h p a t = absurd a
from_bound (fin false n d) (fin true m e) h p a t =
    absurd (sum_above (m * up e * down d) (n * up d * down e) (mul-pos (mul-pos (ltb→lt 0 n p) (up_pos d)) (down_pos e)) (ltb-false 0 (m * up e * down d + n * up d * down e) t))
from_bound (fin false n d) (fin false m e) h p a t =
    le_of_values (fin false n d) (fin false m e) (n * up d) (down d) (m * up e) (down e) (down_pos d) (down_pos e) (refl, refl) (refl, refl) (ltb-false (m * up e * down d) (n * up d * down e) t)

pub positive_of : (x : Float) (h : ℕ) → Size h x → T (above x) → T (positive x)
positive_of nan h a p = absurd a
positive_of (inf s) h a p = absurd a
positive_of (fin true m e) h a p = absurd p
positive_of (fin false m e) h a p = p

-- ---- from RQ_TOL to 2 ^ h
pub record Firm (h : ℕ) (x : Float) : Type 0 where
  pub positive_is : T (positive x)
  pub from_tol : T (le rq_tol x)
  pub size : Size h x

pub firm : (x : Float) (h : ℕ) → Size h x → lt x rq_tol ≡ false → Firm h x
firm x h a t =
    let l : T (le rq_tol x) = from_bound rq_tol x h tol_positive a t in
    record { positive_is = positive_of x h a (above_of_le rq_tol x tol_positive l); from_tol = l; size = a }

-- ---- one over it
not_zero : (n : ℕ) → 0 < n → n ≡ 0 → ⊥
not_zero n h e = omega arith

div_is : (m : ℕ) (e : ℤ) (n : ℕ) (d : ℤ) → 0 < n → div binary64 (fin false m e) (fin false n d) ≡ round binary64 false (m * up e * down d) (n * up d * down e)
unfolding div
div_is m e n d h = rw (ne_eqb n 0 (not_zero n h)) refl

one_over_is : (x : Float) → T (positive x) → div binary64 (fin false 1 (pos 0)) x ≡ round binary64 false (den x) (num x)
one_over_is nan p = absurd p
one_over_is (inf s) p = absurd p
one_over_is (fin true m e) p = absurd p
one_over_is (fin false m e) p =
    div_is 1 (pos 0) m e (ltb→lt 0 m p)
    ∙ ap (λ (z : ℕ). round binary64 false z (m * up e * 1)) (one-mul (down e))
    ∙ ap (λ (z : ℕ). round binary64 false (down e) z) (mul-one (m * up e))

one_over : (x : Float) → T (positive x) → over one x ≡ round binary64 false (den x) (num x)
one_over x p = ap (λ (z : Float). div binary64 z x) one_is ∙ one_over_is x p

num_pos : (x : Float) → T (positive x) → 0 < num x
num_pos nan p = absurd p
num_pos (inf s) p = absurd p
num_pos (fin true m e) p = absurd p
num_pos (fin false m e) p = mul-pos (ltb→lt 0 m p) (up_pos e)

fraction : (x : Float) (h : ℕ) → Size h x → num x ≤ 2 ^ h * den x
fraction nan h a = absurd a
fraction (inf s) h a = absurd a
fraction (fin s m e) h a = a

pub over_least : (x : Float) → Firm 200 x → T (le least (over one x))
over_least x f =
    subst (λ (z : Float). T (le z (over one x))) (sym least_rounded)
    (subst (λ (z : Float). T (le (round binary64 false 1 (2 ^ 200)) z)) (sym (one_over x f.positive_is))
    (round_mono binary64 1 (2 ^ 200) (den x) (num x) (pow_pos 200) (num_pos x f.positive_is)
    (le_trans (le_of_eq (one-mul (num x))) (le_trans (fraction x 200 f.size) (le_of_eq (mul_comm (2 ^ 200) (den x)))))))

pub over_most : (x : Float) → Firm 200 x → T (le (over one x) (over one rq_tol))
over_most x f =
    subst (λ (z : Float). T (le z (over one rq_tol))) (sym (one_over x f.positive_is))
    (subst (λ (z : Float). T (le (round binary64 false (den x) (num x)) z)) (sym (one_over rq_tol tol_positive))
    (round_mono binary64 (den x) (num x) (den rq_tol) (num rq_tol) (num_pos x f.positive_is) (num_pos rq_tol tol_positive)
    (le_trans (le_of_eq (mul_comm (den x) (num rq_tol)))
    (le_trans (le→cross rq_tol x tol_positive f.positive_is f.from_tol) (le_of_eq (mul_comm (num x) (den rq_tol)))))))

pub over_above : (x : Float) → Firm 200 x → lt zero (over one x) ≡ true
over_above x f = above_zero (over one x) (above_of_le least (over one x) tt (over_least x f))
