-- The exact interpolation between two entries of table A against the exact power, over whole numbers. With d = 2 ^ 42, u + n = d and w = (1024 + i) * d + n,
-- which is m * 2 ^ 52, the interpolated number is s / 2 ^ 94, where s = u * A[i] + n * A[i + 1] with entries in units of 2 ^ -52. Assumes nothing.
use mathlib.Core.Path.{◌≡◌, sym, ap, ◌∙◌, subst}
use mathlib.Core.Bool.{Bool, true, false, cond}
use mathlib.Core.Logic.{⊎_elim}
use Prim.Native.Nat.{ℕ, ◌+◌, ◌-◌, ◌*◌, ◌/◌, ◌^◌, ◌≤◌, ◌<◌}
use native.Mathlib.Nat.{le_trans, le_of_eq, le_of_lt, lt_of_le_of_lt, mul-le-mul_left, mul-le-mul_right, mul-pos, one-le-pow, pow-le-pow_left, mul_comm, mul_assoc, mul_left_comm, mul_right_comm, mul-add, add-mul, mul-one}
use native.Mathlib.Omega.{arith}
use lib.Dec.{eqb, lit<}
use lib.Pow.{pow-add}
use lib.ListN.{get_or}
use Rattle.nearest.proofs.Units.{mul_pow}
use Rattle.tables.specs.Tables.{table_a}
use Rattle.tables.proofs.Test.{four, low_middle}
use Rattle.closeness.proofs.Entries.{above_a}
use Rattle.closeness.proofs.Means.{mean}
use Rattle.closeness.proofs.Chord.{mediant, from_above, from_below}
use Rattle.closeness.proofs.Tests.{alpha, Tangent, at_left, at_right}

-- ---- the ends of a step, weighted
sum_of_ends : (u n a w k : ℕ) → u + n ≡ 2 ^ 42 → w ≡ a * 2 ^ 42 + n → u * (37 * k + 213 * (a * 2 ^ 42)) + n * (37 * k + 213 * ((a + 1) * 2 ^ 42)) ≡ 2 ^ 42 * (37 * k + 213 * w)
sum_of_ends u n a w k e f =
    omega (arith, mul-add u (37 * k) (213 * (a * 2 ^ 42)), mul-add n (37 * k) (213 * ((a + 1) * 2 ^ 42)), mul_left_comm u 37 k, mul_left_comm n 37 k, mul_left_comm u 213 (a * 2 ^ 42), mul_left_comm n 213 ((a + 1) * 2 ^ 42), mul_assoc u a (2 ^ 42), mul_assoc n (a + 1) (2 ^ 42), mul-add n a 1, mul-one n, add-mul u n k, ap (λ (z : ℕ). z * k) e, add-mul u n a, ap (λ (z : ℕ). z * a) e)

-- ---- from above: an end of the step, by the mean of w and that end
module _ (a v w s : ℕ) (some : 0 < w) (table : (4 * v - 2) ^ 250 < a ^ 213 * 2 ^ 11370) where
  abbrev y : ℕ
  y = a * 2 ^ 42

  abbrev c : ℕ
  c = 37 * w + 213 * y

  regroup : (k l m : ℕ) → l * (k * m) ≡ k * (m * l)
  regroup k l m = simp (mul_comm, mul_left_comm)

  four_parts : (k l m e : ℕ) → k * (l * m) * e ≡ k * l * (m * e)
  four_parts k l m e = simp mul_assoc

  end_above : s * c ≤ (4 * v - 2) * (250 * w * 2 ^ 42) → s ^ 250 * 2 ^ 8946 ≤ w ^ 213 * (2 ^ 42) ^ 250 * 2 ^ 11370
  end_above h =
      from_above 250 s c (4 * v - 2) (250 * w * 2 ^ 42) (2 ^ 8946) (2 ^ 11370) (y ^ 213) (250 ^ 250 * w ^ 37) (w ^ 213 * (2 ^ 42) ^ 250) h
      (le_trans (mul-le-mul_right (2 ^ 8946) (le_of_lt table)) (le_of_eq (mul_right_comm (a ^ 213) (2 ^ 11370) (2 ^ 8946) ∙ ap (λ (z : ℕ). z * 2 ^ 11370) (sym (mul_pow a (2 ^ 42) 213)))))
      (le_trans (le_of_eq (regroup (250 ^ 250) (y ^ 213) (w ^ 37))) (mean 37 213 w y (lit< tt)))
      (mul_pow (250 * w) (2 ^ 42) 250 ∙ ap (λ (z : ℕ). z * (2 ^ 42) ^ 250) (mul_pow 250 w 250 ∙ ap (λ (z : ℕ). 250 ^ 250 * z) (pow-add w 37 213)) ∙ four_parts (250 ^ 250) (w ^ 37) (w ^ 213) ((2 ^ 42) ^ 250))
      (one-le-pow 250 c (omega arith))

-- ---- from below: an end of the step, by the tangent at the middle c
module _ (a c v w s : ℕ) (some : 0 < c) (large : 0 < v) (test : Tangent a c v) where
  abbrev k : ℕ
  k = c * 2 ^ 41

  abbrev e : ℕ
  e = 37 * k + 213 * (a * 2 ^ 42)

  abbrev t : ℕ
  t = 37 * c + 426 * a

  left_side : (l m x : ℕ) → l * x * m ≡ l * m * x
  left_side l m x = mul_right_comm l x m

  right_side_lem : (l m n x z : ℕ) → l * (m * x * n) * z ≡ n * l * m * (x * z)
  right_side_lem l m n x z = simp (mul_assoc, mul_comm)

  scaled : e ^ 250 * (2 ^ 27 - 3) ^ 250 ≤ v ^ 250 * (k ^ 37 * 250 ^ 250) * 2 ^ 4826
  scaled =
      let p : e ≡ t * 2 ^ 41 = omega arith in
      let l : e ^ 250 * (2 ^ 27 - 3) ^ 250 ≡ (t * (2 ^ 27 - 3)) ^ 250 * 2 ^ 3907 * 2 ^ 6343 =
      ap (λ (z : ℕ). z ^ 250 * (2 ^ 27 - 3) ^ 250) p
      ∙ ap (λ (z : ℕ). z * (2 ^ 27 - 3) ^ 250) (mul_pow t (2 ^ 41) 250)
      ∙ left_side (t ^ 250) ((2 ^ 27 - 3) ^ 250) ((2 ^ 41) ^ 250)
      ∙ ap (λ (z : ℕ). z * (2 ^ 41) ^ 250) (sym (mul_pow t (2 ^ 27 - 3) 250))
      ∙ sym (mul_assoc ((t * (2 ^ 27 - 3)) ^ 250) (2 ^ 3907) (2 ^ 6343)) in
      let r : v ^ 250 * (k ^ 37 * 250 ^ 250) * 2 ^ 4826 ≡ (250 * v) ^ 250 * c ^ 37 * 2 ^ 6343 =
      ap (λ (z : ℕ). v ^ 250 * (z * 250 ^ 250) * 2 ^ 4826) (mul_pow c (2 ^ 41) 37)
      ∙ right_side_lem (v ^ 250) (c ^ 37) (250 ^ 250) ((2 ^ 41) ^ 37) (2 ^ 4826)
      ∙ ap (λ (z : ℕ). z * c ^ 37 * 2 ^ 6343) (sym (mul_pow 250 v 250)) in
      le_trans (le_of_eq l) (le_trans (mul-le-mul_right (2 ^ 6343) test) (le_of_eq (sym r)))

  around : (l m x z : ℕ) → l * m * (x * z) ≡ l * (z * (x * m))
  around l m x z = simp (mul_assoc, mul_comm, mul_left_comm)

  end_below : v * (2 ^ 42 * (37 * k + 213 * w)) ≤ s * e → (2 ^ 42) ^ 250 * w ^ 213 * (2 ^ 27 - 3) ^ 250 ≤ s ^ 250 * 2 ^ 4826
  end_below h =
      from_below 250 s e v (2 ^ 42 * (37 * k + 213 * w)) ((2 ^ 27 - 3) ^ 250) (2 ^ 4826) ((2 ^ 42) ^ 250 * w ^ 213) (k ^ 37 * 250 ^ 250) h
      (le_trans (le_of_eq (around ((2 ^ 42) ^ 250) (w ^ 213) (k ^ 37) (250 ^ 250)))
      (le_trans (mul-le-mul_left ((2 ^ 42) ^ 250) (mean 37 213 k w (lit< tt))) (le_of_eq (sym (mul_pow (2 ^ 42) (37 * k + 213 * w) 250)))))
      scaled
      (mul-pos (one-le-pow 250 v large) (mul-pos (one-le-pow 37 k (omega arith)) (lit< tt)))

-- ---- what table A says
pub less : (b : ℕ) → 4 * alpha b - 2 ≤ low_middle b
unfolding low_middle four
less b = go (eqb (four b) (2 ^ 54))
  where
    go : (t : Bool) → 4 * alpha b - 2 ≤ 4 * alpha b - cond {A = ℕ} t 1 2
    go true = omega arith
    go false = omega arith

entry : (i : ℕ) → i < 1025 → (4 * alpha (get_or table_a i 0) - 2) ^ 250 < (1024 + i) ^ 213 * 2 ^ 11370
entry i h = lt_of_le_of_lt (pow-le-pow_left (less (get_or table_a i 0)) 250) (above_a i h)

-- ---- a step
module _ (i n u w : ℕ) (index : i < 1024) (whole : u + n ≡ 2 ^ 42) (place : w ≡ (1024 + i) * 2 ^ 42 + n) where
  abbrev a : ℕ
  a = 1024 + i

  abbrev one : ℕ
  one = alpha (get_or table_a i 0)

  abbrev next : ℕ
  next = alpha (get_or table_a (i + 1) 0)

  up_one : 1024 + (i + 1) ≡ a + 1
  up_one = omega arith

  entry_next : (4 * next - 2) ^ 250 < (a + 1) ^ 213 * 2 ^ 11370
  entry_next = subst (λ (z : ℕ). (4 * next - 2) ^ 250 < z ^ 213 * 2 ^ 11370) up_one (entry (i + 1) (omega arith))

  -- the chord lies below the curve, but for the entries' own distance of at most half of 2 ^ -52
  pub above : (u * (4 * one - 2) + n * (4 * next - 2)) ^ 250 * 2 ^ 8946 ≤ w ^ 213 * (2 ^ 42) ^ 250 * 2 ^ 11370
  above = ⊎_elim first second (mediant u n (4 * one - 2) (4 * next - 2) (37 * w + 213 * (a * 2 ^ 42)) (37 * w + 213 * ((a + 1) * 2 ^ 42)))
    where
      s : ℕ
      s = u * (4 * one - 2) + n * (4 * next - 2)

      big : u * (37 * w + 213 * (a * 2 ^ 42)) + n * (37 * w + 213 * ((a + 1) * 2 ^ 42)) ≡ 250 * w * 2 ^ 42
      big = sum_of_ends u n a w w whole place ∙ omega arith

      first : s * (37 * w + 213 * (a * 2 ^ 42)) ≤ (4 * one - 2) * (u * (37 * w + 213 * (a * 2 ^ 42)) + n * (37 * w + 213 * ((a + 1) * 2 ^ 42))) → s ^ 250 * 2 ^ 8946 ≤ w ^ 213 * (2 ^ 42) ^ 250 * 2 ^ 11370
      first h = end_above a one w s (omega arith) (entry i (omega arith)) (le_trans h (le_of_eq (ap (λ (z : ℕ). (4 * one - 2) * z) big)))

      second : s * (37 * w + 213 * ((a + 1) * 2 ^ 42)) ≤ (4 * next - 2) * (u * (37 * w + 213 * (a * 2 ^ 42)) + n * (37 * w + 213 * ((a + 1) * 2 ^ 42))) → s ^ 250 * 2 ^ 8946 ≤ w ^ 213 * (2 ^ 42) ^ 250 * 2 ^ 11370
      second h = end_above (a + 1) next w s (omega arith) entry_next (le_trans h (le_of_eq (ap (λ (z : ℕ). (4 * next - 2) * z) big)))

  abbrev mid : ℕ
  mid = 2 * a + 1

  from_left : Tangent a mid one
  from_left = at_left i (omega arith)

  from_right : Tangent (a + 1) mid next
  from_right =
      let e : 2 * (1024 + (i + 1)) - 1 ≡ mid = omega arith in
      subst (λ (z : ℕ). Tangent (a + 1) z next) e (subst (λ (z : ℕ). Tangent z (2 * (1024 + (i + 1)) - 1) next) up_one (at_right (i + 1) (omega arith)))

  -- and the chord is within 3 / 2 ^ 27 of the curve
  pub below : (2 ^ 42) ^ 250 * w ^ 213 * (2 ^ 27 - 3) ^ 250 ≤ (u * one + n * next) ^ 250 * 2 ^ 4826
  below = ⊎_elim first second (mediant u n (37 * k' + 213 * (a * 2 ^ 42)) (37 * k' + 213 * ((a + 1) * 2 ^ 42)) one next)
    where
      k' : ℕ
      k' = mid * 2 ^ 41

      s : ℕ
      s = u * one + n * next

      big : u * (37 * k' + 213 * (a * 2 ^ 42)) + n * (37 * k' + 213 * ((a + 1) * 2 ^ 42)) ≡ 2 ^ 42 * (37 * k' + 213 * w)
      big = sum_of_ends u n a w k' whole place

      turned : (v x : ℕ) → (u * (37 * k' + 213 * (a * 2 ^ 42)) + n * (37 * k' + 213 * ((a + 1) * 2 ^ 42))) * v ≤ x * s → v * (2 ^ 42 * (37 * k' + 213 * w)) ≤ s * x
      turned v x h = le_trans (le_of_eq (mul_comm v (2 ^ 42 * (37 * k' + 213 * w)) ∙ ap (λ (z : ℕ). z * v) (sym big))) (le_trans h (le_of_eq (mul_comm x s)))

      first : (u * (37 * k' + 213 * (a * 2 ^ 42)) + n * (37 * k' + 213 * ((a + 1) * 2 ^ 42))) * one ≤ (37 * k' + 213 * (a * 2 ^ 42)) * s → (2 ^ 42) ^ 250 * w ^ 213 * (2 ^ 27 - 3) ^ 250 ≤ s ^ 250 * 2 ^ 4826
      first h = end_below a mid one w s (omega arith) (omega arith) from_left (turned one (37 * k' + 213 * (a * 2 ^ 42)) h)

      second : (u * (37 * k' + 213 * (a * 2 ^ 42)) + n * (37 * k' + 213 * ((a + 1) * 2 ^ 42))) * next ≤ (37 * k' + 213 * ((a + 1) * 2 ^ 42)) * s → (2 ^ 42) ^ 250 * w ^ 213 * (2 ^ 27 - 3) ^ 250 ≤ s ^ 250 * 2 ^ 4826
      second h = end_below (a + 1) mid next w s (omega arith) (omega arith) from_right (turned next (37 * k' + 213 * ((a + 1) * 2 ^ 42)) h)
