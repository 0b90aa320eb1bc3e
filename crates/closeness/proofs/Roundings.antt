-- The roundings of the routine, of which that of the difference is none: its result, as whole numbers of the smallest f64, against the exact sum of entries times the entry of B.
-- Assumes nothing.
use mathlib.Core.Path.{◌≡◌, sym, ap, ◌∙◌, subst}
use mathlib.Core.Bool.{false}
use Prim.Native.Nat.{ℕ, suc, ◌+◌, ◌-◌, ◌*◌, ◌/◌, ◌^◌, ◌≤◌, ◌<◌}
use native.Mathlib.Nat.{le_trans, le_of_eq, le_of_lt, lt_of_le_of_lt, lt_of_lt_of_le, le-add_right, le_of_mul-le-mul_right, mul-one, mul_assoc, add-mul, mul-le-mul, mul-le-mul_left, mul-le-mul_right, mul-lt-mul_of_pos_right}
use native.Mathlib.Omega.{arith}
use lib.Dec.{lit<, lit≤}
use lib.ListN.{get_or}
use lib.Pow.{pow_pos, pow_mono}
use lib.Ieee.{Float, binary64, add, sub, mul, of_bits}
use lib.Ieee.Exact.{HasValue, round_exact}
use lib.Ieee.Scale.{grid, round_val}
use Rattle.nearest.specs.Nearest.{units}
use Rattle.nearest.proofs.Units.{units_to}
use Rattle.nearest.proofs.Values.{value}
use Rattle.tables.specs.Tables.{table_a, table_b, power_table}
use Rattle.power.specs.Power.{part, between}
use Rattle.power.proofs.Part.{exact}
use Rattle.closeness.proofs.Entries.{entry_a, entry_b, field_a, field_b, interpolated}
use Rattle.closeness.proofs.Tests.{alpha, up, little}
use Rattle.closeness.proofs.Rounding.{Near, Rounded, grid_near, near_cancel, near_more, units_rounded, not_twice, half_at_least}
use Rattle.closeness.proofs.Values.{rescale, mul_of, add_of, sub_of}
use Rattle.closeness.proofs.Bounds.{Result, result_of, product_below, sum_below}

-- a pattern with the exponent's field g + 1
pattern_value : (p g : ℕ) → p / 2 ^ 52 ≡ suc g → g < 2046 → HasValue (of_bits binary64 p) false (alpha p * 2 ^ g) (2 ^ 1074)
pattern_value p g e h =
    let q : p ≡ g * 2 ^ 52 + alpha p = omega arith in
    subst (λ (u : ℕ). HasValue (of_bits binary64 p) false u (2 ^ 1074)) (ap units q ∙ units_to g (alpha p) (omega arith) (omega arith)) (value p (record { above = omega arith; below = omega arith }))

wide_value : (i : ℕ) → i < 1025 → HasValue (entry_a i) false (alpha (get_or table_a i 0) * 2 ^ 1022) (2 ^ 1074)
wide_value i h = pattern_value (get_or table_a i 0) 1022 (field_a i h) (lit< tt)

entry_value : (i : ℕ) → i < 1025 → HasValue (entry_a i) false (alpha (get_or table_a i 0)) (2 ^ 52)
entry_value i h =
    let a = alpha (get_or table_a i 0) in
    rescale (entry_a i) false (a * 2 ^ 1022) (2 ^ 1074) a (2 ^ 52) (pow_pos 1074) (sym (mul_assoc a (2 ^ 1022) (2 ^ 52))) (wide_value i h)

module _ (i n : ℕ) (index : i < 1024) (rest : n < 2 ^ 42) where
  abbrev one : ℕ
  one = alpha (get_or table_a i 0)

  abbrev next : ℕ
  next = alpha (get_or table_a (i + 1) 0)

  abbrev d : ℕ
  d = next - one

  abbrev z : ℕ
  z = n * d

  abbrev s : ℕ
  s = one * 2 ^ 42 + z

  d_little : d < 2 ^ 42
  d_little = omega (arith, up i index, little i index)

  z_little : z < 2 ^ 84
  z_little = omega (arith, mul-le-mul_left n (le_of_lt d_little))

  s_little : s + 2 ^ 42 ≤ 2 ^ 95
  s_little = omega (arith, up i index, mul-le-mul_right d (le_of_lt rest))

  pub s_large : 2 ^ 94 ≤ s
  s_large = omega arith

  -- the difference is exact
  abbrev difference : Float
  difference = sub binary64 (entry_a (i + 1)) (entry_a i)

  difference_value : HasValue difference false d (2 ^ 52)
  difference_value =
      subst (λ (y : Float). HasValue y false d (2 ^ 52))
      (sym (sub_of binary64 (entry_a (i + 1)) (entry_a i) next one (2 ^ 52) (pow_pos 52) (up i index) (entry_value (i + 1) (omega arith)) (entry_value i (omega arith))))
      (round_exact binary64 false d (2 ^ 52) d 1022 (pow_pos 52) (omega (arith, d_little)) (lt_of_lt_of_le (mul-lt-mul_of_pos_right d_little (pow_pos 1022)) (lit≤ tt)) (sym (mul_assoc d (2 ^ 1022) (2 ^ 52))))

  -- the product with t
  abbrev p : ℕ
  p = grid binary64 z (2 ^ 94)

  abbrev product : Float
  product = mul binary64 (part n) difference

  p_near : Near p (z * 2 ^ 980) (2 ^ 31 * 2 ^ 980)
  p_near =
      near_cancel p (z * 2 ^ 980) (2 ^ 31 * 2 ^ 980) (2 ^ 94) (pow_pos 94)
      (subst (λ (x : ℕ). Near (p * 2 ^ 94) x (2 ^ 31 * 2 ^ 980 * 2 ^ 94)) (sym (mul_assoc z (2 ^ 980) (2 ^ 94))) (grid_near binary64 z (2 ^ 94) 1011 (pow_pos 94) (mul-lt-mul_of_pos_right z_little (pow_pos 1074))))

  product_value : HasValue product false p (2 ^ 1074)
  product_value =
      subst (λ (y : Float). HasValue y false p (2 ^ 1074)) (sym (mul_of binary64 (part n) difference n (2 ^ 42) d (2 ^ 52) (pow_pos 42) (pow_pos 52) (exact n rest) difference_value))
      (round_val binary64 z (2 ^ 94) (lt_of_le_of_lt (product_below (2 ^ 980) z p z_little p_near) (lit< tt)))

  -- the sum with the entry
  abbrev t : ℕ
  t = one * 2 ^ 42 * 2 ^ 980 + p

  abbrev v : ℕ
  v = grid binary64 t (2 ^ 1074)

  abbrev total : Float
  total = add binary64 (entry_a i) product

  t_near : Near t (s * 2 ^ 980) (2 ^ 31 * 2 ^ 980)
  t_near = subst (λ (x : ℕ). Near t x (2 ^ 31 * 2 ^ 980)) (sym (add-mul (one * 2 ^ 42) z (2 ^ 980))) (near_more p (z * 2 ^ 980) (2 ^ 31 * 2 ^ 980) (one * 2 ^ 42 * 2 ^ 980) p_near)

  t_large : 2 ^ 1074 ≤ t
  t_large = le_trans (mul-le-mul_right (2 ^ 980) (large one (omega arith))) (le-add_right (one * 2 ^ 42 * 2 ^ 980) p)
    where
      large : (o : ℕ) → 2 ^ 52 ≤ o → 2 ^ 94 ≤ o * 2 ^ 42
      large o h = omega arith

  t_little : t ≤ 2 ^ 96 * 2 ^ 980
  t_little = sum_below (2 ^ 980) s t s_little t_near

  v_rounded : Rounded v t
  v_rounded = subst (λ (x : ℕ). Rounded x t) (mul-one v) (units_rounded t 1 (lit< tt) (le_trans (lit≤ tt) t_large))

  v_little : v ≤ 2 ^ 97 * 2 ^ 980
  v_little = le_trans (not_twice v_rounded) (le_trans (mul-le-mul_left 2 t_little) (le_of_eq (sym (mul_assoc 2 (2 ^ 96) (2 ^ 980)))))

  v_large : 2 ^ 1073 ≤ v
  v_large = half_at_least v_rounded (2 ^ 1073) t_large

  total_value : HasValue total false v (2 ^ 1074)
  total_value =
      subst (λ (y : Float). HasValue y false v (2 ^ 1074))
      (sym (add_of binary64 (entry_a i) product (one * 2 ^ 42 * 2 ^ 980) p (2 ^ 1074) (pow_pos 1074) (subst (λ (u : ℕ). HasValue (entry_a i) false u (2 ^ 1074)) (sym (mul_assoc one (2 ^ 42) (2 ^ 980))) (wide_value i (omega arith))) product_value))
      (round_val binary64 t (2 ^ 1074) (lt_of_le_of_lt v_little (lit< tt)))

  -- the product with the entry of B
  module _ (j : ℕ) (place : j < 128) where
    abbrev beta : ℕ
    beta = alpha (get_or table_b j 0)

    abbrev g : ℕ
    g = get_or table_b j 0 / 2 ^ 52 - 1

    abbrev b : ℕ
    b = beta * 2 ^ g

    abbrev pub r : ℕ
    r = grid binary64 (v * b) (2 ^ 2148)

    b-little : b ≤ 2 ^ 53 * 2 ^ g
    b-little = mul-le-mul_right (2 ^ g) (omega arith)

    pub b-large : 2 ^ 52 * 2 ^ g ≤ b
    b-large = mul-le-mul_right (2 ^ g) (omega arith)

    b-value : HasValue (entry_b j) false b (2 ^ 1074)
    b-value = pattern_value (get_or table_b j 0) g (omega (arith, field_b j place)) (omega (arith, field_b j place))

    r-rounded : Rounded (r * 2 ^ 1074) (v * b)
    r-rounded = units_rounded (v * b) (2 ^ 1074) (pow_pos 1074) (le_trans (lit≤ tt) (mul-le-mul v_large (le_trans (mul-le-mul_left (2 ^ 52) (pow_mono (some g (omega (arith, field_b j place))))) b-large)))
      where
        some : (g : ℕ) → 1 < g → 1 ≤ g
        some g h = omega arith

    pub result-is : Result s b r
    result-is = result_of (2 ^ 980) s t v b r (pow_pos 980) s_large t_near v_rounded (subst (λ (x : ℕ). Rounded x (v * b)) (sym (mul_assoc r (2 ^ 94) (2 ^ 980))) r-rounded)

    r-under : r < 2 ^ 2098
    r-under =
        lt_of_le_of_lt
        (le_of_mul-le-mul_right {m = r} {n = 2 ^ 1134} {k = 2 ^ 1074}
        (le_trans (not_twice r-rounded)
        (le_trans (mul-le-mul_left 2 (mul-le-mul v_little (le_trans b-little (mul-le-mul_left (2 ^ 53) (pow_mono (less g (omega (arith, field_b j place)))))))) (lit≤ tt)))
        (pow_pos 1074))
        (lit< tt)
      where
        less : (g : ℕ) → g < 1077 → g ≤ 1077
        less g h = omega arith

    pub result : HasValue (between power_table i n j) false r (2 ^ 1074)
    result =
        subst (λ (y : Float). HasValue y false r (2 ^ 1074)) (sym (interpolated i n j index ∙ mul_of binary64 total (entry_b j) v (2 ^ 1074) b (2 ^ 1074) (pow_pos 1074) (pow_pos 1074) total_value b-value))
        (round_val binary64 (v * b) (2 ^ 2148) r-under)
