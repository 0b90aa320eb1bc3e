-- From squares to a quotient, over whole numbers of 1 / w: n is a, g is a * a rounded, s is a * a + EPS rounded, and b is the root of s rounded, with `next` the float after it.
-- Each rounding moves by at most 2 ^ -53, so n is at most 1 + 2 ^ -51 times b. Assumes nothing.
use mathlib.Core.Path.{◌≡◌, sym, ap, ◌∙◌, subst}
use Prim.Native.Nat.{ℕ, ◌+◌, ◌-◌, ◌*◌, ◌^◌, ◌≤◌, ◌<◌}
use native.Mathlib.Nat.{le_trans, le_of_eq, lt_of_le_of_lt, lt_of_lt_of_le, lt_of_not-le, not-le_of_lt, le-add_right, add-mul, mul-add, mul_comm, mul_assoc, mul_left_comm, mul-mul-mul_comm, mul-le-mul, mul-le-mul_left, mul-le-mul_right, mul-lt-mul_of_pos_right, mul-pos}
use native.Mathlib.Omega.{arith}
use mathlib.Core.Bool.{Bool, true, false, not}
use lib.Dec.{T, leb, leb→le, nleb→lt, lit<}

-- a smaller square has a smaller root
root_less : (x y : ℕ) → x * x < y * y → x < y
root_less x y h = lt_of_not-le (λ (g : y ≤ x). not-le_of_lt h (mul-le-mul g g))

-- where a * a is rounded by a factor: k / p is 1 - 2 ^ -53
pub by_factors : (k p n g e s w : ℕ) → k * (n * n) ≤ p * (g * w) → k * (g + e) ≤ p * s → k * n * (k * n) ≤ p * p * (s * w)
by_factors k p n g e s w h l =
    le_trans (le_of_eq (mul-mul-mul_comm k n k n ∙ mul_assoc k k (n * n)))
    (le_trans (mul-le-mul_left k h)
    (le_trans (le_of_eq (mul_left_comm k p (g * w) ∙ ap (λ (z : ℕ). p * z) (sym (mul_assoc k g w))))
    (le_trans (mul-le-mul_left p (mul-le-mul_right w (le_trans (mul-le-mul_left k (le-add_right g e)) l)))
    (le_of_eq (ap (λ (z : ℕ). p * z) (mul_assoc p s w) ∙ sym (mul_assoc p p (s * w)))))))

-- where a is small: a * a is at most v, which is less than EPS
pub by_least : (k p n v s w : ℕ) → k ≤ p → n * n ≤ v * w → v ≤ s → k * n * (k * n) ≤ p * p * (s * w)
by_least k p n v s w h l m = le_trans (le_of_eq (mul-mul-mul_comm k n k n)) (mul-le-mul (mul-le-mul h h) (le_trans l (mul-le-mul_right w m)))

twice : (x : ℕ) → 2 * x * (2 * x) ≡ 4 * (x * x)
twice x = mul-mul-mul_comm 2 x 2 x

-- the root's square, of the middle between b and the next float
less_than_middle : (x p s w t : ℕ) → 0 < p → x * x ≤ p * p * (s * w) → 4 * (s * w) < t * t → 2 * x < p * t
less_than_middle x p s w t P h l =
    root_less (2 * x) (p * t)
    (lt_of_le_of_lt (le_of_eq (twice x))
    (lt_of_le_of_lt (mul-le-mul_left 4 h)
    (lt_of_le_of_lt (le_of_eq (mul_left_comm 4 (p * p) (s * w) ∙ mul_comm (p * p) (4 * (s * w))))
    (lt_of_lt_of_le (mul-lt-mul_of_pos_right l (mul-pos P P)) (le_of_eq (mul_comm (t * t) (p * p) ∙ mul-mul-mul_comm p p t t))))))

up_to_next : (b next u : ℕ) → next ≡ b + u → 2 ^ 52 * u ≤ b → 2 ^ 53 * (b + next) ≤ 2 * ((2 ^ 53 + 1) * b)
up_to_next b next u e h = omega arith

halved : (x y : ℕ) → 2 * x < 2 * y → x ≤ y
halved x y h = omega arith

-- n is more than b by d
excess_times : (k b d : ℕ) → k * (b + d) ≤ (k + 2) * b → k * d ≤ 2 * b
excess_times k b d h = omega (arith, mul-add k b d, add-mul k 2 b)

excess_small : (b d : ℕ) → (2 ^ 53 - 1) * d ≤ 2 * b → 2 ^ 51 * d ≤ b
excess_small b d h = omega arith

excess : (n b d : ℕ) → n ≡ b + d → (2 ^ 53 - 1) * n ≤ (2 ^ 53 + 1) * b → 2 ^ 51 * d ≤ b
excess n b d e h = excess_small b d (excess_times (2 ^ 53 - 1) b d (subst (λ (z : ℕ). (2 ^ 53 - 1) * z ≤ (2 ^ 53 + 1) * b) e h))

with_excess : (n b d : ℕ) → n ≡ b + d → 2 ^ 51 * d ≤ b → 2 ^ 51 * n ≤ (2 ^ 51 + 1) * b
with_excess n b d e h = omega arith

not_more : (n b : ℕ) → n ≤ b → 2 ^ 51 * n ≤ (2 ^ 51 + 1) * b
not_more n b h = omega arith

settled : (n b : ℕ) → (2 ^ 53 - 1) * n ≤ (2 ^ 53 + 1) * b → 2 ^ 51 * n ≤ (2 ^ 51 + 1) * b
settled n b h = go (leb n b) (leb→le n b) (nleb→lt n b)
  where
    more : (n b : ℕ) → b < n → n ≡ b + (n - b)
    more n b l = omega arith

    go : (t : Bool) → (T t → n ≤ b) → (T (not t) → b < n) → 2 ^ 51 * n ≤ (2 ^ 51 + 1) * b
    go true k l = not_more n b (k tt)
    go false k l = with_excess n b (n - b) (more n b (l tt)) (excess n b (n - b) (more n b (l tt)) h)

pub quotient : (n s w b next u : ℕ) → next ≡ b + u → 2 ^ 52 * u ≤ b → (2 ^ 53 - 1) * n * ((2 ^ 53 - 1) * n) ≤ 2 ^ 53 * 2 ^ 53 * (s * w) → 4 * (s * w) < (b + next) * (b + next) → 2 ^ 51 * n ≤ (2 ^ 51 + 1) * b
quotient n s w b next u e h k l =
    settled n b (halved ((2 ^ 53 - 1) * n) ((2 ^ 53 + 1) * b) (lt_of_lt_of_le (less_than_middle ((2 ^ 53 - 1) * n) (2 ^ 53) s w (b + next) (lit< tt) k l) (up_to_next b next u e h)))
