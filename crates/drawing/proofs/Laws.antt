-- The column that counts: its length, and what holds of both. Assumes nothing.
use mathlib.Core.Path.{◌≡◌, refl}
use mathlib.Core.Bool.{Bool, true, false, cond}
use mathlib.Core.List.{List}
use Prim.Native.Nat.{ℕ, ◌≤◌}
use native.Mathlib.Omega.{arith}
use lib.ListN.{length}
use lib.Ieee.{Float}
use Rattle.drawing.specs.Drawing.{counting}

pub counting_long : (n : ℕ) (pressures : Bool) (drawn asked : List Float) → n ≤ length drawn → n ≤ length asked → n ≤ length (counting pressures drawn asked)
unfolding counting
counting_long n true drawn asked a b = a
counting_long n false drawn asked a b = b

-- what a PD decides, where it stands and where none does; over any type, and by the flag alone, for a layout holds its flag
pub with_pressures : {A : Type 0} (pressures : Bool) (x y : A) → pressures ≡ true → cond pressures x y ≡ x
with_pressures true x y e = refl
with_pressures false x y e = absurd (let z : ◌≡◌ {A = ℕ} 0 1 = cc in omega arith)

pub without_pressures : {A : Type 0} (pressures : Bool) (x y : A) → pressures ≡ false → cond pressures x y ≡ y
without_pressures false x y e = refl
without_pressures true x y e = absurd (let z : ◌≡◌ {A = ℕ} 0 1 = cc in omega arith)
