-- `excess::move_flows` meets its contract. Assumes nothing.
use Rattle.excess.proofs.Turns.{below, flows_none, flows_next, shifted_long}
use Rattle.excess.specs.Excess.{with_flows}
use native.Mathlib.Omega.{arith}
use Prim.Native.Nat.{ℕ, ◌-◌, ◌≤◌}
use mathlib.Core.Path.{◌≡◌, refl, ap, ◌∙◌}
use lib.ListN.{length}
use Rattle.excess.proofs.move_flows.Given as goal

abbrev pub invariant-loop-i : goal.invariant-loop-i
invariant-loop-i l = (l.i ≤ l.i-end) × (l.excess ≡ with_flows l.sheet l.l l.flows l.i l.initial.excess) × (length l.excess ≡ length l.initial.excess)

abbrev pub decreases-loop-i : goal.decreases-loop-i
decreases-loop-i l = l.i-end - l.i
