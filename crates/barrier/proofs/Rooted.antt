-- The root of an f64 of middle size as a whole number of 2 ^ -1074: what is rooted is below the square of the middle between the root and the next f64. Assumes nothing.
use mathlib.Core.Path.{◌≡◌, refl, sym, ap, ◌∙◌, subst}
use mathlib.Core.Logic.{⊎_elim}
use mathlib.Core.Bool.{true, false, true≢false}
use Prim.Native.Nat.{ℕ, ◌+◌, ◌-◌, ◌*◌, ◌/◌, ◌%◌, ◌^◌, ◌≤◌, ◌<◌}
use native.Mathlib.Nat.{lt_of_lt_of_le, lt_of_not-le, not-le_of_lt, add-mul, one-mul, mul-le-mul, mul-le-mul_right, mul-pos, mul-div_cancel, eq_of_mul-eq-mul_right}
use native.Mathlib.Omega.{arith}
use lib.Dec.{T}
use lib.Pow.{pow_pos, pow_mono}
use lib.Ieee.{Float, nan, inf, fin, binary64, up, down, size, to_bits, of_bits, fits}
use lib.Ieee.Digits.{size-lt, size-le}
use lib.Ieee.Fits.{kept-lt, down_pos}
use lib.Ieee.Exact.{HasValue}
use borrow.Author.Tests.{ne_eqb, lt-leb, le-ltb}
use Rattle.nearest.specs.Nearest.{units}
use Rattle.nearest.proofs.Units.{units_to}
use Rattle.nearest.proofs.Values.{Positive, value, plain, number}
use Rattle.roots.specs.Root.{whole_root, exponent, scaled, root_bits, root_of}
use Rattle.roots.proofs.Cases.{root_field}
use Rattle.roots.proofs.Normal.{normal, parity, root_in}
use Rattle.roots.proofs.Roots.{root_is}
use Rattle.roots.proofs.Meaning

-- n has more than 53 digits, the leading 53 of which are the significand
digits : (n : ℕ) → 2 ^ 1000 ≤ n → n < 2 ^ 1300 → Positive (0 + (size n - 53) * 2 ^ 52 + n / 2 ^ (size n - 53))
digits n l h = at (size n) n (lt_of_not-le (λ (g : size n ≤ 1000). not-le_of_lt (lt_of_lt_of_le (size-lt n) (pow_mono g)) l)) (size-le n 1300 h) (kept-lt 53 n)
  where
    at : (z n : ℕ) → 1000 < z → z ≤ 1300 → n / 2 ^ (z - 53) < 2 ^ 53 → Positive (0 + (z - 53) * 2 ^ 52 + n / 2 ^ (z - 53))
    at z n a b small = record { above = omega arith; below = omega arith }

pattern : (x : Float) (n : ℕ) → HasValue x false n (2 ^ 1074) → 2 ^ 1000 ≤ n → n < 2 ^ 1300 → Positive (to_bits binary64 x)
unfolding to_bits
pattern nan n v l h = absurd v
pattern (inf s) n v l h = absurd v
pattern (fin true m e) n v l h = absurd (true≢false v.0)
pattern (fin false m e) n v l h =
    let same : m * up e * 2 ^ 1074 / down e ≡ n = ap (λ (z : ℕ). z / down e) v.1 ∙ mul-div_cancel n (down_pos e) in
    subst (λ (k : ℕ). Positive (0 + (size k - 53) * 2 ^ 52 + k / 2 ^ (size k - 53))) (sym same) (digits n l h)

-- two fractions of one value over one denominator
one_value : (x : Float) (a b c : ℕ) → HasValue x false a c → HasValue x false b c → a ≡ b
one_value nan a b c h k = absurd h
one_value (inf s) a b c h k = absurd h
one_value (fin s m e) a b c h k = eq_of_mul-eq-mul_right (down e) (down_pos e) a b (sym h.1 ∙ k.1)

-- ---- the root of a pattern
module _ (p : ℕ) (h : Positive p) where
  abbrev g : ℕ
  g = exponent p / 2 + 485

  abbrev R : ℕ
  R = whole_root (scaled p * 2 ^ 54)

  abbrev w : ℕ
  w = (R + 1) / 2

  scaled_less : scaled p ≤ 2 ^ 54 - 2
  scaled_less = ⊎_elim (λ d. omega (arith, d.1, normal p h)) (λ d. omega (arith, d.1, normal p h)) (parity p h)

  root_less : R < 2 ^ 54 - 1
  root_less = lt_of_not-le (λ (l : 2 ^ 54 - 1 ≤ R). not-le_of_lt wide (mul-le-mul l l))
    where
      wide : R * R < (2 ^ 54 - 1) * (2 ^ 54 - 1)
      wide = omega (arith, scaled_less, (root_is (scaled p * 2 ^ 54)).low)

  bits_are : root_bits p ≡ g * 2 ^ 52 + w
  unfolding root_bits
  bits_are = refl

  pub here : units (root_bits p) ≡ w * 2 ^ g
  here = ap units bits_are ∙ units_to g w (omega (arith, root_in p h)) (omega (arith, root_in p h))

  pub after : units (root_bits p + 1) ≡ (w + 1) * 2 ^ g
  after =
      let e : root_bits p + 1 ≡ g * 2 ^ 52 + (w + 1) = omega (arith, bits_are) in
      ap units e ∙ units_to g (w + 1) (omega (arith, root_in p h)) (omega (arith, root_less))

  pub large : 2 ^ 52 ≤ w
  large = omega (arith, root_in p h)

gives : (x : Float) → Positive (to_bits binary64 x) → root_of x ≡ of_bits binary64 (root_bits (to_bits binary64 x))
unfolding root_of
gives x h =
    let p = to_bits binary64 x in
    simp (plain x h.below, ne_eqb (p % 2 ^ 63) 0 (λ e. omega arith), le-ltb (2 ^ 63) p (omega arith), lt-leb (2047 * 2 ^ 52) p h.below)

-- ---- the root y of n / 2 ^ 1074
pub record Rooted (y : Float) (n : ℕ) : Type 0 where
  pub root : ℕ
  pub next : ℕ
  pub step : ℕ
  pub value : HasValue y false root (2 ^ 1074)
  pub some : 0 < root
  pub stepped : next ≡ root + step
  pub small : 2 ^ 52 * step ≤ root
  pub below : 4 * (n * 2 ^ 1074) < (root + next) * (root + next)

pub rooted : (x : Float) (n : ℕ) → T (fits binary64 x) → HasValue x false n (2 ^ 1074) → 2 ^ 1000 ≤ n → n < 2 ^ 1300 → Rooted (root_of x) n
rooted x n t v l h =
    let p = to_bits binary64 x in
    let o = pattern x n v l h in
    let e : units p ≡ n = one_value x (units p) n (2 ^ 1074) (number x t o) v in
    let k = root_field p o in
    let u = 2 ^ g p o in
    record {
      root = units (root_bits p);
      next = units (root_bits p + 1);
      step = u;
      value = subst (λ (y : Float). HasValue y false (units (root_bits p)) (2 ^ 1074)) (sym (gives x o)) (value (root_bits p) (record { above = omega arith; below = omega arith }));
      some = subst (λ (z : ℕ). 0 < z) (sym (here p o)) (mul-pos (omega (arith, large p o)) (pow_pos (g p o)));
      stepped = after p o ∙ add-mul (w p o) 1 u ∙ ap (λ (z : ℕ). w p o * u + z) (one-mul u) ∙ ap (λ (z : ℕ). z + u) (sym (here p o));
      small = subst (λ (z : ℕ). 2 ^ 52 * u ≤ z) (sym (here p o)) (mul-le-mul_right u (large p o));
      below = subst (λ (z : ℕ). 4 * (z * 2 ^ 1074) < (units (root_bits p) + units (root_bits p + 1)) * (units (root_bits p) + units (root_bits p + 1))) e (Meaning.below p o);
    }
