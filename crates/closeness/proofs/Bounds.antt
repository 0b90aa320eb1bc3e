-- The roundings of the routine put together, each as a factor: p * x ≤ q * y says that x is at most q / p times y. Assumes nothing.
use mathlib.Core.Path.{◌≡◌, refl, sym, ap, ◌∙◌, subst}
use Prim.Native.Nat.{ℕ, ◌+◌, ◌-◌, ◌*◌, ◌^◌, ◌≤◌, ◌<◌}
use native.Mathlib.Nat.{le_trans, le_of_eq, le_of_lt, add-le-add, add-mul, le_of_mul-le-mul_left, le_of_mul-le-mul_right, mul_comm, mul_assoc, mul_left_comm, mul_right_comm, mul-le-mul_left, mul-le-mul_right}
use native.Mathlib.Omega.{arith}
use lib.Dec.{lit<, lit≤}
use Rattle.closeness.proofs.Rounding.{Near, Rounded}

-- ---- no result is too large, with e as a unit that stands for a large number
-- the product t * (A[i + 1] - A[i]), which is z units, rounded to p
pub product_below : (e z p : ℕ) → z < 2 ^ 84 → Near p (z * e) (2 ^ 31 * e) → p ≤ 2 ^ 85 * e
product_below e z p h n = omega (arith, n.high, mul-le-mul_right e (le_of_lt h))

-- the sum with A[i]
pub sum_below : (e s t : ℕ) → s + 2 ^ 42 ≤ 2 ^ 95 → Near t (s * e) (2 ^ 31 * e) → t ≤ 2 ^ 96 * e
sum_below e s t h n =
    le_trans (at (s * e) n.high)
    (le_trans (add-le-add (mul-le-mul_right e (less s h)) (le_of_eq refl)) (le_trans (le_of_eq (sym (add-mul (2 ^ 95) (2 ^ 31) e))) (mul-le-mul_right e (lit≤ tt))))
  where
    less : (s : ℕ) → s + 2 ^ 42 ≤ 2 ^ 95 → s ≤ 2 ^ 95
    less s h = omega arith

    at : (y : ℕ) → 2 * t ≤ 2 * y + 2 ^ 31 * e → t ≤ y + 2 ^ 31 * e
    at y l = omega arith

-- ---- factors, one after the other
follow : (p q p' q' x y z : ℕ) → p * x ≤ q * y → p' * y ≤ q' * z → p * p' * x ≤ q * q' * z
follow p q p' q' x y z h k =
    le_trans (le_of_eq (mul_right_comm p p' x ∙ mul_comm (p * x) p'))
    (le_trans (mul-le-mul_left p' h)
    (le_trans (le_of_eq (mul_left_comm p' q y))
    (le_trans (mul-le-mul_left q k) (le_of_eq (sym (mul_assoc q q' z))))))

-- both sides times k
times : (k p q x y : ℕ) → p * x ≤ q * y → p * (x * k) ≤ q * (y * k)
times k p q x y h = le_trans (le_of_eq (sym (mul_assoc p x k))) (le_trans (mul-le-mul_right k h) (le_of_eq (mul_assoc q y k)))

without : (k p q x y : ℕ) → 0 < k → p * (x * k) ≤ q * (y * k) → p * x ≤ q * y
without k p q x y K h = le_of_mul-le-mul_right {m = p * x} {n = q * y} {k = k} (le_trans (le_of_eq (mul_assoc p x k)) (le_trans h (le_of_eq (sym (mul_assoc q y k))))) K

-- a factor that is no smaller in place of q / p
settle : (p q p' q' x y : ℕ) → 0 < p → p' * q ≤ q' * p → p * x ≤ q * y → p' * x ≤ q' * y
settle p q p' q' x y P l h =
    le_of_mul-le-mul_left {m = p' * x} {n = q' * y} {k = p}
    (le_trans (le_of_eq (mul_left_comm p p' x))
    (le_trans (mul-le-mul_left p' h)
    (le_trans (le_of_eq (sym (mul_assoc p' q y)))
    (le_trans (mul-le-mul_right y l) (le_of_eq (mul_right_comm q' p y ∙ mul_comm (q' * y) p))))))
    P

-- ---- the factors from above and from below of the roundings alone: the sum, the last product, and 2 ^ -60 for the first product
abbrev pub most : ℕ
most = (2 ^ 53 + 1) * (2 ^ 53 + 1) * (2 ^ 60 + 1)

abbrev pub fewest : ℕ
fewest = (2 ^ 60 - 1) * (2 ^ 53 - 1) * (2 ^ 53 - 1)

abbrev pub all : ℕ
all = 2 ^ 53 * 2 ^ 53 * 2 ^ 60

-- r is the result and s * b the exact one of the tables' entries
pub record Result (s b r : ℕ) : Type 0 where
  pub low : fewest * (s * b) ≤ all * (r * 2 ^ 94)
  pub high : all * (r * 2 ^ 94) ≤ most * (s * b)

-- d is at most 2 ^ -60 of y
low_part : (y x d : ℕ) → 2 ^ 60 * d ≤ y → y ≤ x + d → (2 ^ 60 - 1) * y ≤ 2 ^ 60 * x
low_part y x d l h = omega arith

high_part : (y x d : ℕ) → 2 ^ 60 * d ≤ y → x ≤ y + d → 2 ^ 60 * x ≤ (2 ^ 60 + 1) * y
high_part y x d l h = omega arith

half : (y x e : ℕ) → 2 * x ≤ 2 * y + 2 ^ 31 * e → x ≤ y + 2 ^ 34 * e
half y x e h = omega arith

-- x is s with the first product rounded, v is x rounded, and r is v * b rounded; e is a unit that stands for a large number
pub result_of : (e s x v b r : ℕ) → 0 < e → 2 ^ 94 ≤ s → Near x (s * e) (2 ^ 31 * e) → Rounded v x → Rounded (r * 2 ^ 94 * e) (v * b) → Result s b r
result_of e s x v b r E large near sum product =
    record {
      low =
          without e fewest all (s * b) (r * 2 ^ 94) E
          (subst (λ (z : ℕ). fewest * z ≤ all * (r * 2 ^ 94 * e)) (mul_right_comm s e b)
          (follow ((2 ^ 60 - 1) * (2 ^ 53 - 1)) (2 ^ 60 * 2 ^ 53) (2 ^ 53 - 1) (2 ^ 53) (s * e * b) (v * b) (r * 2 ^ 94 * e)
          (follow (2 ^ 60 - 1) (2 ^ 60) (2 ^ 53 - 1) (2 ^ 53) (s * e * b) (x * b) (v * b) (times b (2 ^ 60 - 1) (2 ^ 60) (s * e) x first-low) (times b (2 ^ 53 - 1) (2 ^ 53) x v sum.low))
          product.low));
      high =
          without e all most (r * 2 ^ 94) (s * b) E
          (subst (λ (z : ℕ). all * (r * 2 ^ 94 * e) ≤ most * z) (mul_right_comm s e b)
          (follow (2 ^ 53 * 2 ^ 53) ((2 ^ 53 + 1) * (2 ^ 53 + 1)) (2 ^ 60) (2 ^ 60 + 1) (r * 2 ^ 94 * e) (x * b) (s * e * b)
          (follow (2 ^ 53) (2 ^ 53 + 1) (2 ^ 53) (2 ^ 53 + 1) (r * 2 ^ 94 * e) (v * b) (x * b) product.high (times b (2 ^ 53) (2 ^ 53 + 1) v x sum.high))
          (times b (2 ^ 60) (2 ^ 60 + 1) x (s * e) first-high)));
    }
  where
    little : 2 ^ 60 * (2 ^ 34 * e) ≤ s * e
    little = le_trans (le_of_eq (sym (mul_assoc (2 ^ 60) (2 ^ 34) e))) (mul-le-mul_right e large)

    first-low : (2 ^ 60 - 1) * (s * e) ≤ 2 ^ 60 * x
    first-low = low_part (s * e) x (2 ^ 34 * e) little (half x (s * e) e near.low)

    first-high : 2 ^ 60 * x ≤ (2 ^ 60 + 1) * (s * e)
    first-high = high_part (s * e) x (2 ^ 34 * e) little (half (s * e) x e near.high)

-- What is left for the factor h / k from above, with 2 ^ -53 for an entry of A and 63 / 64 of 2 ^ -53 for one of B, and for k / h from below, with 3 / 2 ^ 27 for the chord and 2 ^ -53 for an entry of B.
abbrev pub LeftAbove : ℕ → ℕ → Type 0
LeftAbove k h = k * 2 ^ 9 * (most * (2 ^ 53 * 2 ^ 59)) ≤ h * (all * (4 * (2 ^ 53 - 1) * (128 * (2 ^ 59 - 63))))

abbrev pub LeftBelow : ℕ → ℕ → Type 0
LeftBelow k h = k * 2 ^ 27 * (4 * (2 ^ 53 + 1) * all) ≤ h * (2 ^ 27 - 3) * 4 * (2 ^ 53 * fewest)

less_one : (s s' d : ℕ) → 2 ^ 51 * d ≤ s → s' + d ≡ 4 * s → 4 * (2 ^ 53 - 1) * s ≤ 2 ^ 53 * s'
less_one s s' d l p = omega arith

less_other : (b b' g : ℕ) → 2 ^ 52 * g ≤ b → b' + 63 * g ≡ 128 * b → 128 * (2 ^ 59 - 63) * b ≤ 2 ^ 59 * b'
less_other b b' g l p = omega arith

more_other : (b b' g : ℕ) → 2 ^ 52 * g ≤ b → b' ≡ 4 * b + 2 * g → 2 ^ 53 * b' ≤ 4 * (2 ^ 53 + 1) * b
more_other b b' g l p = omega arith

module _ (s b g r k h : ℕ) (large : 2 ^ 94 ≤ s) (entry : 2 ^ 52 * g ≤ b) (result : Result s b r) where
  -- with s' four times the sum of entries that are half a unit less, and b' 128 times an entry of B that is 63 / 128 of its unit g less
  pub upper : (s' b' : ℕ) → LeftAbove k h → s' + 2 ^ 43 ≡ 4 * s → b' + 63 * g ≡ 128 * b → k * (r * 2 ^ 103) ≤ h * (s' * b')
  upper s' b' left p q =
      le_trans (le_of_eq (ap (λ (z : ℕ). k * z) (mul_left_comm r (2 ^ 9) (2 ^ 94)) ∙ sym (mul_assoc k (2 ^ 9) (r * 2 ^ 94))))
      (settle (all * (4 * (2 ^ 53 - 1) * (128 * (2 ^ 59 - 63)))) (most * (2 ^ 53 * 2 ^ 59)) (k * 2 ^ 9) h (r * 2 ^ 94) (s' * b') (lit< tt) left
      (follow all most (4 * (2 ^ 53 - 1) * (128 * (2 ^ 59 - 63))) (2 ^ 53 * 2 ^ 59) (r * 2 ^ 94) (s * b) (s' * b') result.high
      (follow (4 * (2 ^ 53 - 1)) (2 ^ 53) (128 * (2 ^ 59 - 63)) (2 ^ 59) (s * b) (s' * b) (s' * b')
      (times b (4 * (2 ^ 53 - 1)) (2 ^ 53) s s' (less_one s s' (2 ^ 43) large p))
      (rw (mul_comm s' b, mul_comm s' b') (times s' (128 * (2 ^ 59 - 63)) (2 ^ 59) b b' (less_other b b' g entry q))))))

  -- with b' four times an entry of B that is half a unit more
  pub lower : (b' : ℕ) → LeftBelow k h → b' ≡ 4 * b + 2 * g → k * 2 ^ 27 * (s * b') ≤ h * (2 ^ 27 - 3) * (r * 2 ^ 96)
  lower b' left q =
      le_trans
      (settle (2 ^ 53 * fewest) (4 * (2 ^ 53 + 1) * all) (k * 2 ^ 27) (h * (2 ^ 27 - 3) * 4) (s * b') (r * 2 ^ 94) (lit< tt) left
      (follow (2 ^ 53) (4 * (2 ^ 53 + 1)) fewest all (s * b') (s * b) (r * 2 ^ 94)
      (rw (mul_comm s b, mul_comm s b') (times s (2 ^ 53) (4 * (2 ^ 53 + 1)) b' b (more_other b b' g entry q)))
      result.low))
      (le_of_eq (mul_assoc (h * (2 ^ 27 - 3)) 4 (r * 2 ^ 94) ∙ ap (λ (z : ℕ). h * (2 ^ 27 - 3) * z) (mul_left_comm 4 r (2 ^ 94))))
