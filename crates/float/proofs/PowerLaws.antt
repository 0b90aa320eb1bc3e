-- Whole powers: more halvings than are needed change nothing, so `wholePower` at n comes from `wholePower` at n / 2. Assumes nothing.
use mathlib.Core.Path.{◌≡◌, refl, ap}
use mathlib.Core.Bool.{Bool, true, false, cond}
use Prim.Native.Nat.{ℕ, zero, suc, ◌/◌, ◌≤◌, ◌<◌}
use native.Mathlib.Omega.{arith}
use lib.Dec.{leb}
use lib.Ieee.{Float}
use borrow.Author.Tests.{le-leb, lt-leb, leb-false}
use Rattle.float.specs.WholePower.{least, squared, power_in, whole_power}

pub enough : (k j : ℕ) (x : Float) (n : ℕ) → n ≤ k → n ≤ j → power_in k x n ≡ power_in j x n
unfolding power_in
enough zero zero x n h l = refl
enough zero (suc j) x n h l = simp (le-leb n 1 (omega arith))
enough (suc k) zero x n h l = simp (le-leb n 1 (omega arith))
enough (suc k) (suc j) x n h l = go (leb n 1) refl (λ m. enough k j x (n / 2) (omega arith) (omega arith))
  where
    go : (b : Bool) → leb n 1 ≡ b → (1 < n → power_in k x (n / 2) ≡ power_in j x (n / 2)) → cond b (least x n) (squared x n (power_in k x (n / 2))) ≡ cond b (least x n) (squared x n (power_in j x (n / 2)))
    go true e f = refl
    go false e f = ap (squared x n) (f (leb-false n 1 e))

pub at_most_one : (x : Float) (n : ℕ) → n ≤ 1 → whole_power x n ≡ least x n
unfolding whole_power power_in
at_most_one x zero h = refl
at_most_one x (suc n) h = simp (le-leb (suc n) 1 h)

pub halved : (x : Float) (n : ℕ) → 2 ≤ n → whole_power x n ≡ squared x n (whole_power x (n / 2))
unfolding whole_power power_in
halved x zero h = absurd (omega arith)
halved x (suc n) h = simp (lt-leb (suc n) 1 h) (ap (squared x (suc n)) (enough n (suc n / 2) x (suc n / 2) (omega arith) (omega arith)))
