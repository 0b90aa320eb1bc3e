-- The two theorems: for every x from 2 ^ -64 up to but not including 2 ^ 64 the routine is within a relative 2 ^ -25 of the exact x ^ (213 / 250), and from above within 2 ^ -51.
-- Assumes nothing.
use mathlib.Core.Path.{◌≡◌, refl, sym, ap, ◌∙◌, subst}
use mathlib.Core.Bool.{false}
use Prim.Native.Nat.{ℕ, ◌+◌, ◌-◌, ◌*◌, ◌/◌, ◌%◌, ◌^◌, ◌≤◌, ◌<◌}
use native.Mathlib.Nat.{le_of_lt, mul_assoc, mul_left_comm, mul-add, add-mul}
use native.Mathlib.Omega.{arith}
use lib.Dec.{lit≤}
use lib.ListN.{get_or}
use lib.Ieee.{Float, binary64, to_bits}
use lib.Ieee.Exact.{HasValue}
use Rattle.tables.specs.Tables.{table_a, table_b, power_table}
use Rattle.tables.proofs.Test.{four, high_middle}
use Rattle.power.specs.Power.{power_of, between}
use Rattle.power.proofs.Parts.{split, power_of_lem}
use Rattle.closeness.specs.Close.{Argument, AtMost, unit, Within, Close, Closer, Called}
use Rattle.closeness.proofs.Entries.{field_b, below_b}
use Rattle.closeness.proofs.Tests.{alpha, up, not_far_above}
use Rattle.closeness.proofs.Curve
use Rattle.closeness.proofs.Bounds.{LeftAbove, LeftBelow, upper, lower}
use Rattle.closeness.proofs.Powers
use Rattle.closeness.proofs.Roundings
use Rattle.closeness.proofs.Range.{inside}

-- ---- the exact sum of entries in its two forms
sums : (o x n u : ℕ) → o ≤ x → u + n ≡ 2 ^ 42 → u * o + n * x ≡ o * 2 ^ 42 + n * (x - o)
sums o x n u h e =
    let d = x - o in
    let p : x ≡ o + d = omega arith in
    omega (arith, ap (λ (k : ℕ). n * k) p, mul-add n o d, add-mul u n o, ap (λ (k : ℕ). k * o) e)

sums_less : (o x n u : ℕ) → 1 ≤ o → o ≤ x → u + n ≡ 2 ^ 42 → u * (4 * o - 2) + n * (4 * x - 2) + 2 ^ 43 ≡ 4 * (o * 2 ^ 42 + n * (x - o))
sums_less o x n u l h e =
    let p : 4 * o - 2 + 2 ≡ 4 * o = omega arith in
    let q : 4 * x - 2 + 2 ≡ 4 * x = omega arith in
    omega (arith, sums o x n u h e, mul-add u (4 * o - 2) 2, ap (λ (k : ℕ). u * k) p, mul_left_comm u 4 o, mul-add n (4 * x - 2) 2, ap (λ (k : ℕ). n * k) q, mul_left_comm n 4 x)

module _ (i n f : ℕ) (index : i < 1024) (rest : n < 2 ^ 42) (low : 959 ≤ f) (high : f ≤ 1086) where
  abbrev j : ℕ
  j = 1086 - f

  place : j < 128
  place = omega arith

  abbrev w : ℕ
  w = (1024 + i) * 2 ^ 42 + n

  abbrev u : ℕ
  u = 2 ^ 42 - n

  whole : u + n ≡ 2 ^ 42
  whole = omega arith

  abbrev one : ℕ
  one = alpha (get_or table_a i 0)

  abbrev next : ℕ
  next = alpha (get_or table_a (i + 1) 0)

  abbrev s : ℕ
  s = one * 2 ^ 42 + n * (next - one)

  abbrev q : ℕ
  q = get_or table_b j 0 / 2 ^ 52

  abbrev g : ℕ
  g = q - 1

  abbrev beta : ℕ
  beta = alpha (get_or table_b j 0)

  abbrev b : ℕ
  b = beta * 2 ^ g

  abbrev o : ℕ
  o = 213 * (127 - j) + 250 * (1077 - q) - 213 * 64

  abbrev r : ℕ
  r = Roundings.r i n index rest j place

  exponents : 217186 + (o + g * 250) ≡ (f - 1) * 213 + 268500
  exponents = omega (arith, field_b j place)

  less_times : (128 * beta - 63) * 2 ^ g + 63 * 2 ^ g ≡ 128 * b
  less_times =
      let e : 128 * beta - 63 + 63 ≡ 128 * beta = omega arith in
      sym (add-mul (128 * beta - 63) 63 (2 ^ g)) ∙ ap (λ (k : ℕ). k * 2 ^ g) e ∙ mul_assoc 128 beta (2 ^ g)

  more_times : (4 * beta + 2) * 2 ^ g ≡ 4 * b + 2 * 2 ^ g
  more_times = add-mul (4 * beta) 2 (2 ^ g) ∙ ap (λ (k : ℕ). k + 2 * 2 ^ g) (mul_assoc 4 beta (2 ^ g))

  b_below : 2 ^ o ≤ (4 * beta + 2) ^ 250
  unfolding high_middle four
  b_below = le_of_lt (below_b j place)

  above : (k h : ℕ) → LeftAbove k h → AtMost (r ^ 250) (unit ^ 250) (h ^ 250 * (w * 2 ^ (f - 1)) ^ 213) (k ^ 250 * unit ^ 213)
  above k h left =
      Powers.above r w (f - 1) o g exponents k h (u * (4 * one - 2) + n * (4 * next - 2)) (128 * beta - 63)
      (upper s b (2 ^ g) r k h (Roundings.s_large i n index rest) (Roundings.b-large i n index rest j place) (Roundings.result-is i n index rest j place) (u * (4 * one - 2) + n * (4 * next - 2)) ((128 * beta - 63) * 2 ^ g) left (sums_less one next n u (omega arith) (up i index) whole) less_times)
      (Curve.above i n u w index whole refl)
      (not_far_above j place)

  curve_below : (2 ^ 42) ^ 250 * w ^ 213 * (2 ^ 27 - 3) ^ 250 ≤ s ^ 250 * 2 ^ 4826
  curve_below = subst (λ (k : ℕ). (2 ^ 42) ^ 250 * w ^ 213 * (2 ^ 27 - 3) ^ 250 ≤ k ^ 250 * 2 ^ 4826) (sums one next n u (up i index) whole) (Curve.below i n u w index whole refl)

  below : (k h : ℕ) → LeftBelow k h → AtMost (k ^ 250 * (w * 2 ^ (f - 1)) ^ 213) (h ^ 250 * unit ^ 213) (r ^ 250) (unit ^ 250)
  below k h left =
      Powers.below r w (f - 1) o g exponents k h s (4 * beta + 2)
      (lower s b (2 ^ g) r k h (Roundings.s_large i n index rest) (Roundings.b-large i n index rest j place) (Roundings.result-is i n index rest j place) ((4 * beta + 2) * 2 ^ g) left more_times)
      curve_below
      b_below

  by_parts : (x : Float) (p q : ℕ) → HasValue x false (w * 2 ^ (f - 1)) unit → LeftBelow (2 ^ p - 1) (2 ^ p) → LeftAbove (2 ^ q) (2 ^ q + 1) → Within p q x (between power_table i n j)
  by_parts x p q v l h =
      record {
        of = w * 2 ^ (f - 1);
        to = r;
        argument = v;
        result = Roundings.result i n index rest j place;
        from_below = below (2 ^ p - 1) (2 ^ p) l;
        from_above = above (2 ^ q) (2 ^ q + 1) h;
      }

-- ---- every argument, by its pattern
within : (x : Float) → Argument x → (p q : ℕ) → LeftBelow (2 ^ p - 1) (2 ^ p) → LeftAbove (2 ^ q) (2 ^ q + 1) → Within p q x (power_of x)
unfolding power_of
within x c p q l h =
    let b = to_bits binary64 x in
    let i = b / 2 ^ 42 % 1024 in
    let n = b % 2 ^ 42 in
    let f = b / 2 ^ 52 in
    let at = inside x c.from_least c.below_limit in
    let e : 2 ^ 52 + b % 2 ^ 52 ≡ (1024 + i) * 2 ^ 42 + n = omega arith in
    subst (λ (y : Float). Within p q x y) (sym (power_of_lem x c.held at.low at.high power_table))
    (by_parts i n f (omega arith) (omega arith) (omega (arith, at)) (omega (arith, at)) x p q
    (subst (λ (k : ℕ). HasValue x false (k * 2 ^ (f - 1)) unit) e (split x c.held at.low at.high).value)
    l h)

-- ---- the theorems: the two tests that are left say that p and q are not too sharp
pub close : Close
close x c = within x c _ _ (lit≤ tt) (lit≤ tt)

pub closer : Closer
closer x c = within x c _ _ (lit≤ tt) (lit≤ tt)

by_contract : {p q : ℕ} {x y r : Float} → r ≡ y → Within p q x y → Within p q x r
by_contract {p} {q} {x} e w = subst (λ (z : Float). Within p q x z) (sym e) w

pub called : Called
called tables call r after e c = by_contract e (within call.0 c _ _ (lit≤ tt) (lit≤ tt))
