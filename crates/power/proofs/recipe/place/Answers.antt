-- `power::recipe::place` meets its contract: what is asked of the signed numbers, at each of the 128 fields, is a test that antt computes.
use mathlib.Core.Path.{◌≡◌, subst}
use mathlib.Core.Bool.{Bool, true}
use mathlib.Core.List.{List, [], ◌∷◌}
use lib.ListN.{get_or}
use Prim.Native.Nat.{ℕ, ◌+◌, ◌-◌, ◌/◌, ◌^◌, ◌≤◌, ◌<◌}
use native.Mathlib.Omega.{arith}
use lib.Dec.{T, ltb, eqb, ltb→lt, eqb→eq}
use lib.IntN.{ℤ, pos, nat_abs, ◌-ℤ◌, ◌+ℤ◌}
use lib.Signed.{mag, non_neg}
use mir.Syntax.{w64}
use mir.Val.{to_z, of_z}
use borrow.Author.Rules.{rules}
use Rattle.tables.proofs.Table.{upto, below, every_of, pick}
use Rattle.power.proofs.recipe.place.Goals as goal

abbrev e : ℕ → ℤ
e q = to_z w64 q -ℤ pos 1023

abbrev n : ℕ → ℤ
n q = pos 0 -ℤ to_z w64 (of_z w64 (e q))

abbrev s : ℕ → ℤ
s q = to_z w64 (of_z w64 (n q)) +ℤ pos 63

abbrev r : ℕ → ℤ
r q = to_z w64 (of_z w64 (s q))

tests : ℕ → List Bool
tests q = ltb (mag (e q)) (2 ^ 63) ∷ ltb (mag (n q)) (2 ^ 63) ∷ ltb (mag (s q)) (2 ^ 63) ∷ non_neg (r q) ∷ eqb (nat_abs (r q)) (1086 - q) ∷ []

shifted : ℕ → Bool
shifted k = every_of (tests (959 + k))

passed : T (upto shifted 128)
unfolding shifted tests
passed = tt

-- what holds at each field from 959 to 1086
test_at : (q : ℕ) → 959 ≤ q → q < 1087 → (k : ℕ) → T (get_or (tests q) k true)
unfolding shifted
test_at q low high k =
    let e : 959 + (q - 959) ≡ q = omega arith in
    pick (tests q) (subst (λ (m : ℕ). T (every_of (tests m))) e (below shifted 128 passed (q - 959) (omega arith))) k

pub overflow_sub-e : goal.overflow_sub-e
unfolding tests shifted
overflow_sub-e c =
    let q : ℕ = c.args.p / 2 ^ 52 in
    let at : (k : ℕ) → T (get_or (tests q) k true) = test_at q (omega arith) (omega arith) in
    record { sfits = ltb→lt (mag (e q)) (2 ^ 63) (at 0) }

pub overflow_sub-result : goal.overflow_sub-result
unfolding tests shifted
overflow_sub-result c =
    let q : ℕ = c.args.p / 2 ^ 52 in
    let at : (k : ℕ) → T (get_or (tests q) k true) = test_at q (omega arith) (omega arith) in
    record { sfits = ltb→lt (mag (n q)) (2 ^ 63) (at 1) }

pub overflow_add-result : goal.overflow_add-result
unfolding tests shifted
overflow_add-result c =
    let q : ℕ = c.args.p / 2 ^ 52 in
    let at : (k : ℕ) → T (get_or (tests q) k true) = test_at q (omega arith) (omega arith) in
    record { sfits = ltb→lt (mag (s q)) (2 ^ 63) (at 2) }

pub overflow_cast-result : goal.overflow_cast-result
unfolding tests shifted
overflow_cast-result c =
    let q : ℕ = c.args.p / 2 ^ 52 in
    let at : (k : ℕ) → T (get_or (tests q) k true) = test_at q (omega arith) (omega arith) in
    let is : nat_abs (r q) ≡ 1086 - q = eqb→eq (nat_abs (r q)) (1086 - q) (at 4) in
    (at 3, record { fits = omega (arith, is) })

pub returns : goal.returns
unfolding shifted tests
returns c =
    let q : ℕ = c.args.p / 2 ^ 52 in
    let at : (k : ℕ) → T (get_or (tests q) k true) = test_at q (omega arith) (omega arith) in
    let is : nat_abs (r q) ≡ 1086 - q = eqb→eq (nat_abs (r q)) (1086 - q) (at 4) in
    is
