-- A table whose two parts pass the tests holds the powers of their exponent: each entry is the f64 nearest to its exact power, and no other f64 is (nearest's `unique`).
-- Assumes nothing.
use mathlib.Core.Path.{◌≡◌, sym, ap, ◌∙◌, subst}
use mathlib.Core.Bool.{Bool}
use mathlib.Core.List.{List, ◌++◌}
use Prim.Native.Nat.{ℕ, suc, ◌+◌, ◌-◌, ◌*◌, ◌/◌, ◌%◌, ◌^◌, ◌≤◌, ◌<◌}
use native.Mathlib.Nat.{lt_of_mul-lt-mul_left, mul-pos, mul_assoc, mul_comm, mul_left_comm, mul-lt-mul_of_pos_right}
use native.Mathlib.Omega.{arith}
use lib.Dec.{T}
use lib.ListN.{length, get_or}
use lib.Pow.{pow-add, pow_pos}
use Rattle.nearest.specs.Nearest.{units, Nearest}
use Rattle.nearest.proofs.Units.{mul_pow, pow_mul}
use Rattle.tables.specs.Powers.{Powers}
use Rattle.tables.proofs.Table.{every}
use Rattle.tables.proofs.Lent.{in_a, in_b}
use Rattle.tables.proofs.Rounded.{number}
use Rattle.tables.proofs.Test.{low_middle, high_middle, low, high, step, aim_a, aim_b, places_b, Between, near_a, near_b, field_a, betweenA, field_b, betweenB}
use Rattle.tables.proofs.Middles.{lower, upper}

-- ---- from the numbers of a test to those of `Nearest`, over the power k: x is a sum of two neighbours' units, whose middle v has at the exponent g, times c

module _ (k g c v x t num den : ℕ) (middle : c * x ≡ v * 2 ^ g) (den_pos : 0 < den) (aim : t * (2 ^ g) ^ k * den ≡ num * (c * 2 ^ 1075) ^ k) where
  times_c : c ^ k * (x ^ k * den) ≡ v ^ k * ((2 ^ g) ^ k * den)
  times_c =
      sym (mul_assoc (c ^ k) (x ^ k) den)
      ∙ ap (λ (n : ℕ). n * den) (sym (mul_pow c x k) ∙ ap (λ (n : ℕ). n ^ k) middle ∙ mul_pow v (2 ^ g) k)
      ∙ mul_assoc (v ^ k) ((2 ^ g) ^ k) den

  times_c_aim : c ^ k * (num * (2 ^ 1075) ^ k) ≡ t * ((2 ^ g) ^ k * den)
  times_c_aim =
      mul_left_comm (c ^ k) num ((2 ^ 1075) ^ k)
      ∙ ap (λ (n : ℕ). num * n) (sym (mul_pow c (2 ^ 1075) k))
      ∙ sym aim
      ∙ mul_assoc t ((2 ^ g) ^ k) den

  positive : 0 < (2 ^ g) ^ k * den
  positive = rw (pow_mul 2 g k) (mul-pos (pow_pos (g * k)) den_pos)

  under : v ^ k < t → x ^ k * den < num * (2 ^ 1075) ^ k
  under h = lt_of_mul-lt-mul_left (c ^ k) (rw (times_c, times_c_aim) (mul-lt-mul_of_pos_right h positive))

  over : t < v ^ k → num * (2 ^ 1075) ^ k < x ^ k * den
  over h = lt_of_mul-lt-mul_left (c ^ k) (rw (times_c, times_c_aim) (mul-lt-mul_of_pos_right h positive))

scaled : (u l e : ℕ) → 2 * u ≡ l * e → 2 ^ 74 * u ≡ l * 2 ^ 73 * e
scaled u l e h = mul_assoc (2 ^ 73) 2 u ∙ ap (λ (n : ℕ). 2 ^ 73 * n) h ∙ sym (mul_assoc (2 ^ 73) l e) ∙ ap (λ (n : ℕ). n * e) (mul_comm (2 ^ 73) l)

-- a pattern by its field and its significand
module _ (k num den b t : ℕ) (den_pos : 0 < den) (field-low : 1 < b / 2 ^ 52) (aim : t * (2 ^ (b / 2 ^ 52 - 1)) ^ k * den ≡ num * (2 ^ 74 * 2 ^ 1075) ^ k) where
  abbrev f : ℕ
  f = b / 2 ^ 52 - 2

  abbrev w : ℕ
  w = 2 ^ 52 + b % 2 ^ 52

  whole : suc f * 2 ^ 52 + w ≡ b
  whole = omega arith

  exponent : suc f ≡ b / 2 ^ 52 - 1
  exponent = omega arith

  aim_at : t * (2 ^ suc f) ^ k * den ≡ num * (2 ^ 74 * 2 ^ 1075) ^ k
  aim_at = subst (λ (g : ℕ). t * (2 ^ g) ^ k * den ≡ num * (2 ^ 74 * 2 ^ 1075) ^ k) (sym exponent) aim

  pub nearest : Between k b t → Nearest k num den b
  nearest h =
      record {
        above = under k (suc f) (2 ^ 74) (low b) (units (b - 1) + units b) t num den (scaled (units (b - 1) + units b) (low_middle b) (2 ^ suc f) low-is) den_pos aim_at h.above;
        below = over k (suc f) (2 ^ 74) (high b) (units b + units (b + 1)) t num den (scaled (units b + units (b + 1)) (high_middle b) (2 ^ suc f) high_is) den_pos aim_at h.below;
      }
    where
      low-is : 2 * (units (b - 1) + units b) ≡ low_middle b * 2 ^ suc f
      low-is = subst (λ (n : ℕ). 2 * (units (n - 1) + units n) ≡ low_middle n * 2 ^ suc f) whole (lower f w (omega arith) (omega arith))

      high_is : 2 * (units b + units (b + 1)) ≡ high_middle b * 2 ^ suc f
      high_is = subst (λ (n : ℕ). 2 * (units n + units (n + 1)) ≡ high_middle n * 2 ^ suc f) whole (upper f w (omega arith) (omega arith))

-- ---- the aims of the tests are those of `Nearest`

joined : (n a b : ℕ) → n * 2 ^ a * 2 ^ b ≡ n * 2 ^ (a + b)
joined n a b = mul_assoc n (2 ^ a) (2 ^ b) ∙ ap (λ (m : ℕ). n * m) (sym (pow-add 2 a b))

aim_a_lem : (p q i g : ℕ) → p ≤ q → g ≡ 1022 → aim_a p q i * (2 ^ g) ^ q * 1024 ^ p ≡ (1024 + i) ^ p * (2 ^ 74 * 2 ^ 1075) ^ q
aim_a_lem p q i g h e =
    ap (λ (m : ℕ). m * 2 ^ z * (2 ^ g) ^ q * 1024 ^ p) (mul_pow (1024 + i) (2 ^ 117) p ∙ ap (λ (m : ℕ). n * m) (pow_mul 2 117 p))
    ∙ ap (λ (m : ℕ). m * (2 ^ g) ^ q * 1024 ^ p) (joined n (117 * p) z)
    ∙ ap (λ (m : ℕ). n * 2 ^ (117 * p + z) * m * 1024 ^ p) (ap (λ (m : ℕ). (2 ^ m) ^ q) e ∙ pow_mul 2 1022 q)
    ∙ ap (λ (m : ℕ). m * 1024 ^ p) (joined n (117 * p + z) (1022 * q))
    ∙ ap (λ (m : ℕ). n * 2 ^ (117 * p + z + 1022 * q) * m) (pow_mul 2 10 p)
    ∙ joined n (117 * p + z + 1022 * q) (10 * p)
    ∙ ap (λ (m : ℕ). n * 2 ^ m) sum
    ∙ ap (λ (m : ℕ). n * m) (sym (pow_mul 2 1149 q))
  where
    n : ℕ
    n = (1024 + i) ^ p

    z : ℕ
    z = 127 * (q - p)

    sum : 117 * p + 127 * (q - p) + 1022 * q + 10 * p ≡ 1149 * q
    sum = omega arith

aim_b_lem : (p q j f : ℕ) → (f - 1) * q + p * j ≤ p * 63 + 1149 * q → aim_b p q j f * (2 ^ (f - 1)) ^ q * 2 ^ (p * j) ≡ 2 ^ (p * 63) * (2 ^ 74 * 2 ^ 1075) ^ q
aim_b_lem p q j f h =
    ap (λ (m : ℕ). 2 ^ z * m * 2 ^ (p * j)) (pow_mul 2 (f - 1) q)
    ∙ ap (λ (m : ℕ). m * 2 ^ (p * j)) (sym (pow-add 2 z ((f - 1) * q)))
    ∙ sym (pow-add 2 (z + (f - 1) * q) (p * j))
    ∙ ap (λ (m : ℕ). 2 ^ m) (back ((f - 1) * q) (p * j) (p * 63 + 1149 * q) h)
    ∙ pow-add 2 (p * 63) (1149 * q)
    ∙ ap (λ (m : ℕ). 2 ^ (p * 63) * m) (sym (pow_mul 2 1149 q))
  where
    z : ℕ
    z = places_b p q j f

    back : (u v w : ℕ) → u + v ≤ w → w - (u + v) + u + v ≡ w
    back u v w l = omega arith

-- ---- the theorem over the exponent

module _ (ps qs : List Bool) (ta tb : List ℕ) (below_one : number ps ≤ number qs) (length_a : length ta ≡ 1025) (length_b : length tb ≡ 128) (passed_a : T (every (near_a ps qs) 0 ta)) (passed_b : T (every (near_b ps qs) 0 tb)) where
  abbrev p : ℕ
  p = number ps

  abbrev q : ℕ
  q = number qs

  den_a : 0 < 1024 ^ p
  den_a = rw (pow_mul 2 10 p) (pow_pos (10 * p))

  pub powers : Powers p q (ta ++ tb)
  powers =
      record {
        steps = λ i h. subst (λ (b : ℕ). Nearest q ((1024 + i) ^ p) (1024 ^ p) b) (sym (in_a ta tb length_a i h)) (steps-are i h);
        twos = λ j h. subst (λ (b : ℕ). Nearest q (2 ^ (p * 63)) (2 ^ (p * j)) b) (sym (in_b ta tb length_a j)) (twos-are j h);
      }
    where
      steps-are : (i : ℕ) → i < 1025 → Nearest q ((1024 + i) ^ p) (1024 ^ p) (get_or ta i 0)
      steps-are i h =
          let l : i < length ta = omega arith in
          let e : get_or ta i 0 / 2 ^ 52 ≡ 1023 = field_a ps qs ta passed_a i l in
          let g : get_or ta i 0 / 2 ^ 52 - 1 ≡ 1022 = omega (arith, e) in
          nearest q ((1024 + i) ^ p) (1024 ^ p) (get_or ta i 0) (aim_a p q i) den_a (omega (arith, e)) (aim_a_lem p q i (get_or ta i 0 / 2 ^ 52 - 1) below_one g) (betweenA ps qs ta passed_a i l)

      twos-are : (j : ℕ) → j < 128 → Nearest q (2 ^ (p * 63)) (2 ^ (p * j)) (get_or tb j 0)
      twos-are j h =
          let l : j < length tb = omega arith in
          let f = get_or tb j 0 / 2 ^ 52 in
          let e = field_b ps qs tb passed_b j l in
          nearest q (2 ^ (p * 63)) (2 ^ (p * j)) (get_or tb j 0) (aim_b p q j f) (pow_pos (p * j)) e.0 (aim_b_lem p q j f e.1) (betweenB ps qs tb passed_b j l)
