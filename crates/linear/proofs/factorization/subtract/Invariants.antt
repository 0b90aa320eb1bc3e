-- `linear::factorization::subtract` meets its contract. The invariant: the rows down to r are less their product with column k. Assumes nothing.
use native.Mathlib.Omega.{arith}
use Prim.Native.Nat.{◌-◌, ◌≤◌}
use mathlib.Core.Path.{◌≡◌, refl}
use Rattle.linear.specs.Matrix.{at}
use Rattle.linear.specs.Factorization.{subtracted}
use Rattle.linear.proofs.FactorTurns.{subtract_none, subtract_next}
use Rattle.linear.proofs.Skips.{subtract_zero}
use lib.ListN.{length, length-set}
use Rattle.linear.proofs.factorization.subtract.Given as goal

abbrev pub invariant-loop-r : goal.invariant-loop-r
invariant-loop-r l = (length l.a ≡ 4096) × (l.c ≤ l.r) × (l.r ≤ l.n) × (l.f ≡ at l.initial.a l.c l.k)
    × (l.a ≡ subtracted l.c l.k (l.r - l.c) l.initial.a)

abbrev pub decreases-loop-r : goal.decreases-loop-r
decreases-loop-r l = l.n - l.r
