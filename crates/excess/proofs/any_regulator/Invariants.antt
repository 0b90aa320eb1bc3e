-- `excess::any_regulator` meets its contract. Assumes nothing.
use Rattle.excess.specs.Excess.{present}
use Rattle.excess.proofs.Turns.{present_none, present_next}
use native.Mathlib.Omega.{arith}
use Prim.Native.Nat.{◌-◌, ◌≤◌}
use mathlib.Core.Path.{◌≡◌, ap, ◌∙◌}
use Rattle.excess.proofs.any_regulator.Given as goal

abbrev pub invariant-loop-i : goal.invariant-loop-i
invariant-loop-i l = (l.i ≤ l.i-end) × (l.found ≡ present l.sheet l.l l.i)

abbrev pub decreases-loop-i : goal.decreases-loop-i
decreases-loop-i l = l.i-end - l.i
