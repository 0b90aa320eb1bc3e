-- The powers of the bounds. Assumes nothing.
use mathlib.Core.Path.{◌≡◌, sym, ap, ◌∙◌}
use Prim.Native.Nat.{ℕ, ◌+◌, ◌-◌, ◌*◌, ◌^◌, ◌≤◌}
use native.Mathlib.Nat.{le_trans, le_of_eq, le_of_mul-le-mul_right, mul_comm, mul_assoc, mul_left_comm, mul-le-mul, mul-le-mul_left, mul-le-mul_right, pow-le-pow_left}
use lib.Dec.{lit<}
use lib.Pow.{pow-add}
use Rattle.nearest.proofs.Units.{mul_pow, pow_mul}
use Rattle.closeness.specs.Close.{AtMost, unit}

-- ---- the power of a product, and products put in another order
three_pow : (k a b n : ℕ) → (k * (a * b)) ^ n ≡ k ^ n * (a ^ n * b ^ n)
three_pow k a b n = mul_pow k (a * b) n ∙ ap (λ (z : ℕ). k ^ n * z) (mul_pow a b n)

four_pow : (k a b c n : ℕ) → (k * (a * (b * c))) ^ n ≡ k ^ n * (a ^ n * (b ^ n * c ^ n))
four_pow k a b c n = three_pow k a (b * c) n ∙ ap (λ (z : ℕ). k ^ n * (a ^ n * z)) (mul_pow b c n)

out : (k a b e : ℕ) → k * (a * b) * e ≡ k * (a * e * b)
out k a b e = simp (mul_assoc, mul_comm)

spread : (r k a b c : ℕ) → r * (k * (a * b * c)) ≡ k * (r * a) * b * c
spread r k a b c = simp (mul_assoc, mul_left_comm)

gather : (x a b c y z : ℕ) → x * a * b * (c * y * z) ≡ x * (a * b * c) * (y * z)
gather x a b c y z = simp mul_assoc

high_turn : (h x a b t : ℕ) → h * (x * a * t) * b ≡ h * (x * (a * b * t))
high_turn h x a b t = simp (mul_assoc, mul_comm)

low_turn : (k d x t c : ℕ) → k * (d * x * t) * c ≡ k * (d * x * c * t)
low_turn k d x t c = simp (mul_assoc, mul_comm)

low_end : (m c r a b : ℕ) → m * c * (r * a) * b ≡ m * (r * (a * b)) * c
low_end m c r a b = simp (mul_assoc, mul_comm, mul_left_comm)

low_last : (l a d x t b : ℕ) → l * a * (d * x * t) * b ≡ l * (x * (a * d * b * t))
low_last l a d x t b = simp (mul_assoc, mul_comm, mul_left_comm)

-- x is w * 2 ^ f over 2 ^ 1074, the entry of B is near 2 ^ o, and its unit is 2 ^ g
module _ (r w f o g : ℕ) (exponents : 217186 + (o + g * 250) ≡ f * 213 + 268500) where
  abbrev top : ℕ
  top = 2 ^ o * (2 ^ g) ^ 250

  sum_is : 2 ^ 217186 * top ≡ (2 ^ f) ^ 213 * unit ^ 250
  sum_is =
      ap (λ (z : ℕ). 2 ^ 217186 * z) (ap (λ (z : ℕ). 2 ^ o * z) (pow_mul 2 g 250) ∙ sym (pow-add 2 o (g * 250)))
      ∙ sym (pow-add 2 217186 (o + g * 250))
      ∙ ap (λ (z : ℕ). 2 ^ z) exponents
      ∙ pow-add 2 (f * 213) 268500
      ∙ ap (λ (z : ℕ). z * 2 ^ 268500) (sym (pow_mul 2 f 213))

  -- k times the power of x, with all powers of two
  target : (k : ℕ) → k * (w ^ 213 * (2 ^ 217186 * top)) ≡ k * (w * 2 ^ f) ^ 213 * unit ^ 250
  target k =
      ap (λ (z : ℕ). k * (w ^ 213 * z)) sum_is
      ∙ ap (λ (z : ℕ). k * z) (sym (mul_assoc (w ^ 213) ((2 ^ f) ^ 213) (unit ^ 250)) ∙ ap (λ (z : ℕ). z * unit ^ 250) (sym (mul_pow w (2 ^ f) 213)))
      ∙ sym (mul_assoc k ((w * 2 ^ f) ^ 213) (unit ^ 250))

  -- ---- from above, by the factor h / k
  module _ (k h s b : ℕ) (bound : k * (r * 2 ^ 103) ≤ h * (s * (b * 2 ^ g))) (curve : s ^ 250 * 2 ^ 8946 ≤ w ^ 213 * (2 ^ 42) ^ 250 * 2 ^ 11370) (entry : b ^ 250 ≤ 2 ^ 1250 * 2 ^ o) where
    above_power : k ^ 250 * (r ^ 250 * 2 ^ 25750) * 2 ^ 8946 ≤ h ^ 250 * (w ^ 213 * 2 ^ 23120 * top)
    above_power =
        le_trans (mul-le-mul_right (2 ^ 8946) (le_trans (le_of_eq (sym (three_pow k r (2 ^ 103) 250))) (le_trans (pow-le-pow_left bound 250) (le_of_eq (four_pow h s b (2 ^ g) 250)))))
        (le_trans (le_of_eq (out (h ^ 250) (s ^ 250) (b ^ 250 * (2 ^ g) ^ 250) (2 ^ 8946)))
        (le_trans (mul-le-mul_left (h ^ 250) (mul-le-mul curve (mul-le-mul_right ((2 ^ g) ^ 250) entry)))
        (le_of_eq (ap (λ (z : ℕ). h ^ 250 * z) (gather (w ^ 213) ((2 ^ 42) ^ 250) (2 ^ 11370) (2 ^ 1250) (2 ^ o) ((2 ^ g) ^ 250))))))

    pub above : AtMost (r ^ 250) (unit ^ 250) (h ^ 250 * (w * 2 ^ f) ^ 213) (k ^ 250 * unit ^ 213)
    above =
        le_trans (le_of_eq (spread (r ^ 250) (k ^ 250) (2 ^ 25750) (2 ^ 8946) (2 ^ 194066)))
        (le_trans (mul-le-mul_right (2 ^ 194066) above_power)
        (le_of_eq (high_turn (h ^ 250) (w ^ 213) (2 ^ 23120) (2 ^ 194066) top ∙ target (h ^ 250))))

  -- ---- from below, by the factor k / h
  abbrev c : ℕ
  c = 2 ^ 27 - 3

  module _ (k h s b : ℕ) (bound : k * 2 ^ 27 * (s * (b * 2 ^ g)) ≤ h * c * (r * 2 ^ 96)) (curve : (2 ^ 42) ^ 250 * w ^ 213 * c ^ 250 ≤ s ^ 250 * 2 ^ 4826) (entry : 2 ^ o ≤ b ^ 250) where
    abbrev l : ℕ
    l = (k * 2 ^ 27) ^ 250

    below_power : l * ((2 ^ 42) ^ 250 * w ^ 213 * top) ≤ h ^ 250 * (r ^ 250 * 2 ^ 28826)
    below_power =
        le_of_mul-le-mul_right {m = l * ((2 ^ 42) ^ 250 * w ^ 213 * top)} {n = h ^ 250 * (r ^ 250 * 2 ^ 28826)} {k = c ^ 250}
        (le_trans (le_of_eq (low_turn l ((2 ^ 42) ^ 250) (w ^ 213) top (c ^ 250)))
        (le_trans (mul-le-mul_left l (mul-le-mul curve (mul-le-mul_right ((2 ^ g) ^ 250) entry)))
        (le_trans (le_of_eq (sym (out l (s ^ 250) (b ^ 250 * (2 ^ g) ^ 250) (2 ^ 4826)) ∙ ap (λ (z : ℕ). z * 2 ^ 4826) (sym (four_pow (k * 2 ^ 27) s b (2 ^ g) 250))))
        (le_trans (mul-le-mul_right (2 ^ 4826) (le_trans (pow-le-pow_left bound 250) (le_of_eq (three_pow (h * c) r (2 ^ 96) 250 ∙ ap (λ (z : ℕ). z * (r ^ 250 * 2 ^ 24000)) (mul_pow h c 250)))))
        (le_of_eq (low_end (h ^ 250) (c ^ 250) (r ^ 250) (2 ^ 24000) (2 ^ 4826)))))))
        (lit< tt)

    pub below : AtMost (k ^ 250 * (w * 2 ^ f) ^ 213) (h ^ 250 * unit ^ 213) (r ^ 250) (unit ^ 250)
    below =
        le_trans (le_of_eq (sym (ap (λ (z : ℕ). z * ((2 ^ 42) ^ 250 * w ^ 213 * top) * 2 ^ 199936) (mul_pow k (2 ^ 27) 250) ∙ low_last (k ^ 250) (2 ^ 6750) ((2 ^ 42) ^ 250) (w ^ 213) top (2 ^ 199936) ∙ target (k ^ 250))))
        (le_trans (mul-le-mul_right (2 ^ 199936) below_power)
        (le_of_eq (mul_assoc (h ^ 250) (r ^ 250 * 2 ^ 28826) (2 ^ 199936) ∙ ap (λ (z : ℕ). h ^ 250 * z) (mul_assoc (r ^ 250) (2 ^ 28826) (2 ^ 199936)) ∙ mul_left_comm (h ^ 250) (r ^ 250) (unit ^ 213))))
