-- `state::start_links` meets its contract. Assumes nothing.
use Rattle.state.proofs.Turns.{Links}
use Prim.Native.Nat.{◌-◌}
use Rattle.state.proofs.start_links.Given as goal

abbrev pub invariant-loop-j : goal.invariant-loop-j
invariant-loop-j l = Links l.sheet l.l l.initial.flows l.initial.statuses l.flows l.statuses l.j

abbrev pub decreases-loop-j : goal.decreases-loop-j
decreases-loop-j l = l.l.links - l.j
