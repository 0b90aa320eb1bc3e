-- `state::start_nodes` meets its contract. Assumes nothing.
use Rattle.state.proofs.Turns.{Nodes}
use Prim.Native.Nat.{◌-◌}
use Rattle.state.proofs.start_nodes.Given as goal

abbrev pub invariant-loop-i : goal.invariant-loop-i
invariant-loop-i l = Nodes l.sheet l.l l.initial.heads l.initial.demands l.heads l.demands l.i

abbrev pub decreases-loop-i : goal.decreases-loop-i
decreases-loop-i l = l.l.nodes - l.i
