-- Whatever follows from what never holds. Assumes nothing.
use Prim.Native.Nat.{ℕ}
use mathlib.Core.Path.{◌≡◌}
use mathlib.Core.Bool.{true, false}
use native.Mathlib.Omega.{arith}

pub other : {A : Type 0} → ◌≡◌ {A = ℕ} 0 1 → A
other e = absurd (let y : ⊥ = omega arith in y)

pub never : {A : Type 0} → false ≡ true → A
never e = other (cc)
