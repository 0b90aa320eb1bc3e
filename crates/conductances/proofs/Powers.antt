-- The power of an f64 from 0 up to but not including 2 ^ 64 is at most 2 ^ 64. Assumes nothing.
use mathlib.Core.Path.{◌≡◌, refl, sym, ap, ◌∙◌, subst}
use mathlib.Core.Logic.{⊎_elim}
use mathlib.Core.Bool.{Bool, true, false}
use Prim.Native.Nat.{ℕ, ◌+◌, ◌-◌, ◌*◌, ◌/◌, ◌^◌, ◌≤◌, ◌<◌}
use native.Mathlib.Nat.{le_trans, le_of_eq, le_of_lt, lt_of_lt_of_le, not-le_of_lt, mul_comm, mul_assoc, mul_left_comm, mul_right_comm, one-mul, mul-le-mul_left, mul-le-mul_right, mul-lt-mul_of_pos_right, le_of_mul-le-mul_right, mul-pos, pow-le-pow_left, one-le-pow, div-lt_iff_lt-mul}
use native.Mathlib.Omega.{arith}
use lib.Count.{count_trailing_zeros}
use lib.IntN.{negsuc, ℤ}
use lib.Dec.{T, lit≤, lit<}
use lib.Pow.{pow_pos}
use lib.Ieee.{Float, nan, inf, fin, binary64, up, down, odd, of_bits, of_fields, size, lt, le, is_nan, fits, to_bits}
use lib.Ieee.Digits.{size-le}
use lib.Ieee.Fits.{kept-lt, down_pos}
use lib.Ieee.Exact.{HasValue}
use Rattle.nearest.proofs.Units.{mul_pow}
use Rattle.tables.specs.Tables.{power_table}
use Rattle.power.specs.Power.{power_of, power_by}
use Rattle.power.proofs.Cases
use Rattle.closeness.specs.Close.{least, limit, unit, Within}
use Rattle.closeness.proofs.Means.{lt_or_ge}
use Rattle.closeness.proofs.Theorem.{close}
use Rattle.conductances.proofs.Grid.{clear, Size, size_of_value}
use Rattle.conductances.proofs.Numbers.{not_le}

-- ---- below 2 ^ -64 it is 0
few_digits_lem : (n : ℕ) → n < 2 ^ 1010 → 0 + (size n - 53) * 2 ^ 52 + n / 2 ^ (size n - 53) < 959 * 2 ^ 52
few_digits_lem n h = at (size n) (n / 2 ^ (size n - 53)) (size-le n 1010 h) (kept-lt 53 n)
  where
    at : (z w : ℕ) → z ≤ 1010 → w < 2 ^ 53 → 0 + (z - 53) * 2 ^ 52 + w < 959 * 2 ^ 52
    at z w a b = omega arith

small_pattern : (m : ℕ) (e : ℤ) → m * up e * 2 ^ 64 < down e → to_bits binary64 (fin false m e) < 959 * 2 ^ 52
unfolding to_bits
small_pattern m e h = few_digits_lem (m * up e * 2 ^ 1074 / down e) ((div-lt_iff_lt-mul (down_pos e)).1 (turn (m * up e) (down e) h))
  where
    turn : (x d : ℕ) → x * 2 ^ 64 < d → x * 2 ^ 1074 < 2 ^ 1010 * d
    turn x d g = lt_of_lt_of_le (subst (λ (z : ℕ). z < d * 2 ^ 1010) (mul_assoc x (2 ^ 64) (2 ^ 1010)) (mul-lt-mul_of_pos_right g (pow_pos 1010))) (le_of_eq (mul_comm d (2 ^ 1010)))

small_power : (m : ℕ) (e : ℤ) → to_bits binary64 (fin false m e) < 959 * 2 ^ 52 → power_of (fin false m e) ≡ of_bits binary64 0
unfolding power_of power_by is_nan
small_power m e h = Cases.tiny power_table (to_bits binary64 (fin false m e)) h

zero_size : Size 64 (of_bits binary64 0)
unfolding of_bits of_fields odd count_trailing_zeros
zero_size = lit≤ tt

-- ---- from there on it is close to x ^ (213 / 250), so not above 2 ^ 64
regroup : (P U K W : ℕ) → P * U * (K * W) ≡ K * P * (U * W)
regroup P U K W = simp (mul_assoc, mul_comm, mul_left_comm)

regroup_high : (H Q W U : ℕ) → H * (Q * W) * U ≡ H * Q * (U * W)
regroup_high H Q W U = simp (mul_assoc, mul_comm)

-- x is a / u, its power r / u, and t the bound of both; k / h is the share by which the power may be off, to the 250th
bound : (t u a r K H : ℕ) → 0 < u → a ≤ t * u → r ^ 250 * (K * u ^ 213) ≤ H * a ^ 213 * u ^ 250 → H * t ^ 213 < K * t ^ 250 → r ≤ t * u
bound t u a r K H u-pos l c s = ⊎_elim far (λ (h : r ≤ t * u). h) (lt_or_ge (t * u) r)
  where
    powers : 0 < u ^ 250 * u ^ 213
    powers = mul-pos (one-le-pow 250 u u-pos) (one-le-pow 213 u u-pos)

    far : t * u < r → r ≤ t * u
    far h =
        absurd
        (not-le_of_lt s
        (le_of_mul-le-mul_right
        (le_trans (le_of_eq (sym (regroup (t ^ 250) (u ^ 250) K (u ^ 213)) ∙ ap (λ (z : ℕ). z * (K * u ^ 213)) (sym (mul_pow t u 250))))
        (le_trans (mul-le-mul_right (K * u ^ 213) (pow-le-pow_left (le_of_lt h) 250))
        (le_trans c
        (le_trans (mul-le-mul_right (u ^ 250) (mul-le-mul_left H (pow-le-pow_left l 213)))
        (le_of_eq (ap (λ (z : ℕ). H * z * u ^ 250) (mul_pow t u 213) ∙ regroup_high H (t ^ 213) (u ^ 213) (u ^ 250)))))))
        powers))

units_of_lem : (m : ℕ) (e : ℤ) (a u : ℕ) → m * up e ≤ 2 ^ 64 * down e → HasValue (fin false m e) false a u → a ≤ 2 ^ 64 * u
units_of_lem m e a u l v =
    le_of_mul-le-mul_right
    (le_trans (le_of_eq (sym v.1)) (le_trans (mul-le-mul_right u l) (le_of_eq (mul_right_comm (2 ^ 64) (down e) u))))
    (down_pos e)

close_size : (m : ℕ) (e : ℤ) → m * up e ≤ 2 ^ 64 * down e → (r : Float) → Within 25 25 (fin false m e) r → Size 64 r
close_size m e l r w =
    size_of_value r false w.to unit 64 (pow_pos 1074) w.result
    (bound (2 ^ 64) unit w.of w.to ((2 ^ 25) ^ 250) ((2 ^ 25 + 1) ^ 250) (pow_pos 1074) (units_of_lem m e w.of unit l w.argument) w.from_above (lit< tt))

by_least : (m : ℕ) (e : ℤ) → T (fits binary64 (fin false m e)) → Size 64 (fin false m e) → T (lt (fin false m e) limit) → (b : Bool) → le least (fin false m e) ≡ b → Size 64 (power_of (fin false m e))
by_least m e f a l true h = close_size m e a (power_of (fin false m e)) (close (fin false m e) (record { held = f; from_least = subst T (sym h) tt; below_limit = l }))
by_least m e f a l false h = subst (λ (z : Float). Size 64 z) (sym (small_power m e (small_pattern m e (subst (λ (z : ℕ). m * up e * 2 ^ 64 < z) (one-mul (down e)) (not_le 1 (negsuc 63) m e h))))) zero_size

pub power_size : (x : Float) → T (fits binary64 x) → T (clear x) → Size 64 x → T (lt x limit) → Size 64 (power_of x)
power_size nan f c a l = absurd a
power_size (inf s) f c a l = absurd a
power_size (fin true m e) f c a l = absurd c
power_size (fin false m e) f c a l = by_least m e f a l (le least (fin false m e)) refl
