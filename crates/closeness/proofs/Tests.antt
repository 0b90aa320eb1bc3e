-- Tests that antt computes: two over the entries of table A, one over the steps between them, and one over the entries of table B. Assumes nothing.
use mathlib.Core.Path.{◌∙◌, sym, ap}
use mathlib.Core.Bool.{Bool, true}
use mathlib.Core.List.{[], ◌∷◌}
use Prim.Native.Nat.{ℕ, ◌+◌, ◌-◌, ◌*◌, ◌/◌, ◌%◌, ◌^◌, ◌≤◌, ◌<◌}
use native.Mathlib.Nat.{le_trans, le_of_eq, mul_assoc, mul_right_comm, mul-le-mul_right, pow-le-pow_left}
use native.Mathlib.Omega.{arith}
use lib.Dec.{T, leb, ltb, leb→le, ltb→lt}
use lib.ListN.{get_or}
use Rattle.nearest.proofs.Units.{mul_pow}
use Rattle.tables.specs.Tables.{table_a, table_b}
use Rattle.tables.proofs.Table.{every, at, every_of, pick, upto, below}
use Rattle.closeness.proofs.Entries.{aim_b}

-- the significand of an entry
abbrev pub alpha : ℕ → ℕ
alpha b = 2 ^ 52 + b % 2 ^ 52

-- The tangent at the middle c / 2048 of a step, at one of its ends a / 1024, is not far above the entry of that end: within 3 / 2 ^ 27 of it.
abbrev pub Tangent : ℕ → ℕ → ℕ → Type 0
Tangent a c v = ((37 * c + 426 * a) * (2 ^ 27 - 3)) ^ 250 * 2 ^ 3907 ≤ (250 * v) ^ 250 * c ^ 37

-- the test, with the entry cut to its leading 33 digits
tangent : ℕ → ℕ → ℕ → Bool
tangent a c v = leb (((37 * c + 426 * a) * (2 ^ 27 - 3)) ^ 250) ((250 * (v / 2 ^ 20)) ^ 250 * c ^ 37 * 2 ^ 1093)

from_test : (a c v : ℕ) → T (tangent a c v) → Tangent a c v
unfolding tangent
from_test a c v h =
    let v' = v / 2 ^ 20 in
    let k = ((37 * c + 426 * a) * (2 ^ 27 - 3)) ^ 250 in
    le_trans (mul-le-mul_right (2 ^ 3907) (leb→le k ((250 * v') ^ 250 * c ^ 37 * 2 ^ 1093) h))
    (le_trans (le_of_eq (mul_assoc ((250 * v') ^ 250 * c ^ 37) (2 ^ 1093) (2 ^ 3907) ∙ mul_right_comm ((250 * v') ^ 250) (c ^ 37) (2 ^ 5000) ∙ ap (λ (z : ℕ). z * c ^ 37) (sym (mul_pow (250 * v') (2 ^ 20) 250))))
    (mul-le-mul_right (c ^ 37) (pow-le-pow_left (omega arith) 250)))

left : ℕ → ℕ → Bool
left i b = tangent (1024 + i) (2 * (1024 + i) + 1) (alpha b)

right : ℕ → ℕ → Bool
right i b = tangent (1024 + i) (2 * (1024 + i) - 1) (alpha b)

test_left : T (every left 0 table_a)
unfolding left tangent table_a
test_left = tt

test_right : T (every right 0 table_a)
unfolding right tangent table_a
test_right = tt

module _ (i : ℕ) (h : i < 1025) where
  abbrev b : ℕ
  b = get_or table_a i 0

  pub at_left : Tangent (1024 + i) (2 * (1024 + i) + 1) (alpha b)
  unfolding left table_a
  at_left = from_test (1024 + i) (2 * (1024 + i) + 1) (alpha b) (at left table_a test_left i h)

  pub at_right : Tangent (1024 + i) (2 * (1024 + i) - 1) (alpha b)
  unfolding right table_a
  at_right = from_test (1024 + i) (2 * (1024 + i) - 1) (alpha b) (at right table_a test_right i h)

-- ---- the steps: an entry is less than 2 ^ 42 units of 2 ^ -52 below the next one
rising : ℕ → Bool
rising i = every_of (leb (alpha (get_or table_a i 0)) (alpha (get_or table_a (i + 1) 0)) ∷ ltb (alpha (get_or table_a (i + 1) 0)) (alpha (get_or table_a i 0) + 2 ^ 42) ∷ [])

test_rising : T (upto rising 1024)
unfolding rising table_a
test_rising = tt

module _ (i : ℕ) (h : i < 1024) where
  abbrev one : ℕ
  one = alpha (get_or table_a i 0)

  abbrev next : ℕ
  next = alpha (get_or table_a (i + 1) 0)

  both_of : (k : ℕ) → T (get_or (leb one next ∷ ltb next (one + 2 ^ 42) ∷ []) k true)
  unfolding rising
  both_of k = pick (leb one next ∷ ltb next (one + 2 ^ 42) ∷ []) (below rising 1024 test_rising i h) k

  pub up : one ≤ next
  up = leb→le one next (both_of 0)

  pub little : next < one + 2 ^ 42
  little = ltb→lt next (one + 2 ^ 42) (both_of 1)

-- ---- table B: an entry is less than 63 / 128 of its unit above the exact power. That it is the nearest would give 64 / 128, which is not enough for 2 ^ -51.
exact : ℕ → ℕ → Bool
exact j b = leb ((128 * alpha b - 63) ^ 250) (2 ^ 1250 * aim_b j (b / 2 ^ 52))

test_exact : T (every exact 0 table_b)
unfolding exact table_b
test_exact = tt

pub not_far_above : (j : ℕ) → j < 128 → (128 * alpha (get_or table_b j 0) - 63) ^ 250 ≤ 2 ^ 1250 * aim_b j (get_or table_b j 0 / 2 ^ 52)
unfolding exact table_b
not_far_above j h = let b = get_or table_b j 0 in leb→le ((128 * alpha b - 63) ^ 250) (2 ^ 1250 * aim_b j (b / 2 ^ 52)) (at exact table_b test_exact j h)
