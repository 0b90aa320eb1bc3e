-- What crate tables proves of the entries for 213 / 250, in the numbers that this crate goes on with: as entries of the two tables, and with the powers of two that
-- both sides of a test share left out. Assumes nothing.
use mathlib.Core.Path.{◌≡◌, refl, sym, ap, ◌∙◌, subst}
use mathlib.Core.Bool.{Bool, true}
use mathlib.Core.List.{List, [], ◌∷◌}
use Prim.Native.Nat.{ℕ, ◌+◌, ◌-◌, ◌*◌, ◌/◌, ◌^◌, ◌≤◌, ◌<◌}
use native.Mathlib.Nat.{lt_of_mul-lt-mul_right, mul_assoc}
use native.Mathlib.Omega.{arith}
use lib.Dec.{T, ltb, leb, ltb→lt, leb→le}
use lib.ListN.{get_or}
use lib.Pow.{pow-add}
use lib.Ieee.{Float, binary64, add, sub, mul, of_bits}
use Rattle.nearest.proofs.Units.{mul_pow}
use Rattle.tables.specs.Tables.{table_a, table_b, power_table}
use Rattle.tables.proofs.Table.{every, at, every_of, pick}
use Rattle.tables.proofs.Lent.{in_a, in_b}
use Rattle.tables.proofs.Test
use Rattle.tables.proofs.Exponents.{d213, d250, length_a, length_b, passed_a, passed_b}
use Rattle.power.specs.Power.{part, between}

abbrev pub entry_a : ℕ → Float
entry_a i = of_bits binary64 (get_or table_a i 0)

abbrev pub entry_b : ℕ → Float
entry_b j = of_bits binary64 (get_or table_b j 0)

-- the exact power of entry j of B, whose exponent's field is q, to the 250th
abbrev pub aim_b : ℕ → ℕ → ℕ
aim_b j q = 2 ^ (213 * (127 - j) + 250 * (1077 - q) - 213 * 64)

-- ---- the lent table is the two behind one another
pub interpolated : (i n j : ℕ) → i < 1024 → between power_table i n j ≡ mul binary64 (add binary64 (entry_a i) (mul binary64 (part n) (sub binary64 (entry_a (i + 1)) (entry_a i)))) (entry_b j)
unfolding between power_table
interpolated i n j h =
    let low : get_or power_table i 0 ≡ get_or table_a i 0 = in_a table_a table_b length_a i (omega arith) in
    let high : get_or power_table (i + 1) 0 ≡ get_or table_a (i + 1) 0 = in_a table_a table_b length_a (i + 1) (omega arith) in
    let last : get_or power_table (1025 + j) 0 ≡ get_or table_b j 0 = in_b table_a table_b length_a j in
    simp (low, high, last)

-- ---- the fields of the exponents
pub field_a : (i : ℕ) → i < 1025 → get_or table_a i 0 / 2 ^ 52 ≡ 1023
field_a i h = Test.field_a d213 d250 table_a passed_a i (rw length_a h)

tests : ℕ → ℕ → List Bool
tests j b =
    let q = b / 2 ^ 52 in
    ltb 960 q ∷ ltb q 1078 ∷ leb (213 * 64) (213 * (127 - j) + 250 * (1077 - q)) ∷ []

fine : ℕ → ℕ → Bool
fine j b = every_of (tests j b)

test_fields : T (every fine 0 table_b)
unfolding fine tests table_b
test_fields = tt

module _ (j : ℕ) (h : j < 128) where
  abbrev b : ℕ
  b = get_or table_b j 0

  abbrev q : ℕ
  q = b / 2 ^ 52

  at_field : (k : ℕ) → T (get_or (tests j b) k true)
  unfolding fine
  at_field k = pick (tests j b) (at fine table_b test_fields j (rw length_b h)) k

  pub field_b : (960 < q) × (q < 1078) × (213 * 64 ≤ 213 * (127 - j) + 250 * (1077 - q))
  unfolding tests
  field_b = (ltb→lt 960 q (at_field 0), ltb→lt q 1078 (at_field 1), leb→le (213 * 64) (213 * (127 - j) + 250 * (1077 - q)) (at_field 2))

-- ---- the tests, with 2 ^ 18250 left out on both sides
abbrev shared : ℕ
shared = (2 ^ 73) ^ 250

pub above_a : (i : ℕ) → i < 1025 → Test.low_middle (get_or table_a i 0) ^ 250 < (1024 + i) ^ 213 * 2 ^ 11370
above_a i h =
    let l = Test.low_middle (get_or table_a i 0) in
    let e : Test.aim_a 213 250 i ≡ (1024 + i) ^ 213 * 2 ^ 11370 * shared =
    ap (λ (n : ℕ). n * 2 ^ 4699) (mul_pow (1024 + i) (2 ^ 117) 213)
    ∙ mul_assoc ((1024 + i) ^ 213) ((2 ^ 117) ^ 213) (2 ^ 4699)
    ∙ sym (mul_assoc ((1024 + i) ^ 213) (2 ^ 11370) shared) in
    lt_of_mul-lt-mul_right shared (subst (λ (n : ℕ). l ^ 250 * shared < n) e (subst (λ (n : ℕ). n < Test.aim_a 213 250 i) (mul_pow l (2 ^ 73) 250) (Test.betweenA d213 d250 table_a passed_a i (rw length_a h)).above))

pub below_b : (j : ℕ) → j < 128 → aim_b j (get_or table_b j 0 / 2 ^ 52) < Test.high_middle (get_or table_b j 0) ^ 250
below_b j h =
    let b = get_or table_b j 0 in
    let q = b / 2 ^ 52 in
    let o = 213 * (127 - j) + 250 * (1077 - q) - 213 * 64 in
    let l = Test.high_middle b in
    let places : Test.places_b 213 250 j q ≡ o + 18250 = omega (arith, field_b j h) in
    let e : Test.aim_b 213 250 j q ≡ aim_b j q * shared = ap (λ (n : ℕ). 2 ^ n) places ∙ pow-add 2 o 18250 in
    lt_of_mul-lt-mul_right shared (subst (λ (n : ℕ). aim_b j q * shared < n) (mul_pow l (2 ^ 73) 250) (subst (λ (n : ℕ). n < (l * 2 ^ 73) ^ 250) e (Test.betweenB d213 d250 table_b passed_b j (rw length_b h)).below))
