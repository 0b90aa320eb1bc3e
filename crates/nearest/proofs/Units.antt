-- Patterns of f64s as whole numbers of the smallest one: the number rises with the pattern, so at most one pattern is nearest to a root.
-- Assumes nothing.
use mathlib.Core.Path.{◌≡◌, refl, sym, ap, ◌∙◌, subst}
use mathlib.Core.Bool.{Bool, true, false}
use mathlib.Core.Logic.{⊎_elim, ◌⊎◌, inl, inr}
use Prim.Native.Nat.{ℕ, zero, suc, ◌+◌, ◌-◌, ◌*◌, ◌/◌, ◌%◌, ◌^◌, ◌≤◌, ◌<◌, max}
use native.Mathlib.Nat.{le_of_eq, le_trans, add-suc, add-le-add, mul-pos, eq-or-lt_of_le, le_of_lt, add-zero, mul-one, pow-zero, pow-suc, mul_assoc, mul_left_comm, mul-zero, zero-mul, one-le-pow, mul-suc, add-mul, mul-le-mul_right, mul-lt-mul_of_pos_right, lt_of_lt_of_le, lt_of_le_of_lt, le_antisymm, le_of_suc-le-suc, lt_of_not-le, lt_trans, not-le_of_lt, pow-le-pow_left, pow-lt-pow_left}
use native.Mathlib.Numerals.{add-one}
use native.Mathlib.Omega.{arith}
use lib.Dec.{ltb, lit<, lit≤}
use lib.Pow.{pow_pos, pow-add}
use borrow.Author.Tests.{eq-eqb, ne_eqb, ltb-true, ltb-false}
use Rattle.nearest.specs.Nearest.{units, Nearest}

-- ---- a pattern by its exponent g and its significand w, of 53 digits or 2 ^ 53

pub units_at : (g w : ℕ) → 2 ^ 52 ≤ w → w < 2 ^ 53 → units (g * 2 ^ 52 + w) ≡ w * 2 ^ g
unfolding units
units_at g w l h =
    let q : (g * 2 ^ 52 + w) / 2 ^ 52 ≡ g + 1 = omega arith in
    let t : (g * 2 ^ 52 + w) % 2 ^ 52 + 2 ^ 52 ≡ w = omega arith in
    let f : max ((g * 2 ^ 52 + w) / 2 ^ 52) 1 - 1 ≡ g = omega arith in
    simp (ne_eqb ((g * 2 ^ 52 + w) / 2 ^ 52) 0 (λ e. omega arith), t, f)

pub units_to : (g w : ℕ) → 2 ^ 52 ≤ w → w ≤ 2 ^ 53 → units (g * 2 ^ 52 + w) ≡ w * 2 ^ g
units_to g w l h = ⊎_elim last (units_at g w l) (eq-or-lt_of_le h)
  where
    last : w ≡ 2 ^ 53 → units (g * 2 ^ 52 + w) ≡ w * 2 ^ g
    last e =
        let q : g * 2 ^ 52 + w ≡ (g + 1) * 2 ^ 52 + 2 ^ 52 = omega arith in
        ap units q ∙ units_at (g + 1) (2 ^ 52) (lit≤ tt) (lit< tt) ∙ omega (arith, ap (λ (k : ℕ). 2 ^ k) (add-one g), pow-suc 2 g, ap (λ (k : ℕ). k * 2 ^ g) e)

-- ---- the number rises with the pattern

units_small : (p : ℕ) → p < 2 ^ 52 → units p ≡ p
unfolding units
units_small p h =
    let q : p / 2 ^ 52 ≡ 0 = omega arith in
    let t : p % 2 ^ 52 ≡ p = omega arith in
    let f : max (p / 2 ^ 52) 1 - 1 ≡ 0 = omega arith in
    simp (eq-eqb (p / 2 ^ 52) 0 q, t, f, add-zero, mul-one)

lt_or_ge : (a b : ℕ) → (a < b) ⊎ (b ≤ a)
lt_or_ge a b = go (ltb a b) refl
  where
    go : (t : Bool) → ltb a b ≡ t → (a < b) ⊎ (b ≤ a)
    go true e = inl (ltb-true a b e)
    go false e = inr (ltb-false a b e)

units_step : (p : ℕ) → units p < units (suc p)
units_step p = ⊎_elim small large (lt_or_ge p (2 ^ 52))
  where
    small : p < 2 ^ 52 → units p < units (suc p)
    small h = ⊎_elim last (λ l. omega (arith, units_small p h, units_small (suc p) l)) (eq-or-lt_of_le h)
      where
        last : suc p ≡ 2 ^ 52 → units p < units (suc p)
        last e = omega (arith, units_small p h, ap units e, units_at 0 (2 ^ 52) (lit≤ tt) (lit< tt))

    large : 2 ^ 52 ≤ p → units p < units (suc p)
    large h =
        let k : ℕ = p / 2 ^ 52 - 1 in
        let v : ℕ = p % 2 ^ 52 + 2 ^ 52 in
        let a : p ≡ k * 2 ^ 52 + v = omega arith in
        let b : suc p ≡ k * 2 ^ 52 + (v + 1) = omega arith in
        omega (arith, ap units a, units_to k v (omega arith) (omega arith), ap units b, units_to k (v + 1) (omega arith) (omega arith), add-mul v 1 (2 ^ k), pow_pos k)

units_mono : (d a : ℕ) → units a ≤ units (a + d)
units_mono zero a = le_of_eq (ap units (sym (add-zero a)))
units_mono (suc d) a = le_trans (units_mono d a) (subst (λ (k : ℕ). units (a + d) ≤ units k) (sym (add-suc a d)) (le_of_lt (units_step (a + d))))

units_le : {a b : ℕ} → a ≤ b → units a ≤ units b
units_le {a} {b} h = let e : a + (b - a) ≡ b = omega arith in subst (λ (k : ℕ). units a ≤ units k) e (units_mono (b - a) a)

-- ---- powers of products

pub mul_pow : (a b k : ℕ) → (a * b) ^ k ≡ a ^ k * b ^ k
mul_pow a b zero = simp pow-zero
mul_pow a b (suc k) = rw (pow-suc (a * b) k, pow-suc a k, pow-suc b k, mul_pow a b k) (simp (mul_assoc, mul_left_comm))

zero_pow : (k : ℕ) → (k ≡ 0 → ⊥) → 0 ^ k ≡ 0
zero_pow zero h = absurd (h refl)
zero_pow (suc k) h = pow-suc 0 k ∙ mul-zero (0 ^ k)

pub pow_mul : (a j k : ℕ) → (a ^ j) ^ k ≡ a ^ (j * k)
pow_mul a j zero = rw (pow-zero (a ^ j), mul-zero j, pow-zero a)
pow_mul a j (suc k) =
    let e : j * suc k ≡ j * k + j = omega (arith, mul-suc j k) in
    rw (pow-suc (a ^ j) k, pow_mul a j k, e, pow-add a (j * k) j)

-- ---- at most one pattern is nearest

not_less : {k num den s t : ℕ} → Nearest k num den s → Nearest k num den t → s < t → ⊥
not_less {k} {num} {den} {s} {t} n m h =
    let l : units s + units (s + 1) ≤ units (t - 1) + units t = add-le-add (units_le {a = s} {b = t - 1} (omega arith)) (units_le {a = s + 1} {b = t} (omega arith)) in
    not-le_of_lt (lt_trans m.above n.below) (mul-le-mul_right den (pow-le-pow_left l k))

pub unique : {k num den s t : ℕ} → Nearest k num den s → Nearest k num den t → s ≡ t
unique n m = le_antisymm (le_of_suc-le-suc (lt_of_not-le (not_less m n))) (le_of_suc-le-suc (lt_of_not-le (not_less n m)))

-- ---- a root that is an f64 is nearest to itself

module _ (k num den : ℕ) (some : k ≡ 0 → ⊥) (num_pos : 0 < num) (den_pos : 0 < den) where
  scaled_up : (u : ℕ) → u ^ k * den ≡ num * (2 ^ 1074) ^ k → (u + u) ^ k * den ≡ num * (2 ^ 1075) ^ k
  scaled_up u e =
      let two : u + u ≡ 2 * u = omega arith in
      rw (two, mul_pow 2 u k, mul_assoc (2 ^ k) (u ^ k) den, e, mul_pow 2 (2 ^ 1074) k) (mul_left_comm (2 ^ k) num ((2 ^ 1074) ^ k))

  pub exact : (s : ℕ) → units s ^ k * den ≡ num * (2 ^ 1074) ^ k → Nearest k num den s
  exact zero e =
      let none : units 0 ^ k * den ≡ 0 = rw (units_small 0 (lit< tt), zero_pow k some, zero-mul den) in
      absurd (not-le_of_lt (mul-pos num_pos (one-le-pow k (2 ^ 1074) (pow_pos 1074))) (le_of_eq (sym e ∙ none)))
  exact (suc s) e =
      record {
        above = lt_of_lt_of_le (mul-lt-mul_of_pos_right (pow-lt-pow_left low some) den_pos) (le_of_eq to);
        below = lt_of_le_of_lt (le_of_eq (sym to)) (mul-lt-mul_of_pos_right (pow-lt-pow_left high some) den_pos);
      }
    where
      to : (units (suc s) + units (suc s)) ^ k * den ≡ num * (2 ^ 1075) ^ k
      to = scaled_up (units (suc s)) e

      before-is : suc s - 1 ≡ s
      before-is = omega arith

      low : units (suc s - 1) + units (suc s) < units (suc s) + units (suc s)
      low = omega (arith, ap units before-is, units_step s)

      high : units (suc s) + units (suc s) < units (suc s) + units (suc s + 1)
      high = omega (arith, ap units (add-one (suc s)), units_step (suc s))
