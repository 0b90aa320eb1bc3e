-- `assembly::building::add_links` meets its contract. Assumes nothing.
use Rattle.assembly.proofs.Built.{Linked}
use Rattle.assembly.specs.Assembly.{view}
use Prim.Native.Nat.{◌-◌}
use Rattle.assembly.proofs.building.add_links.Given as goal

abbrev pub invariant-loop-j : goal.invariant-loop-j
invariant-loop-j l = Linked l.sheet l.l (view l.heads l.flows l.statuses l.excess) l.initial.matrix l.initial.rhs l.initial.g l.initial.y l.matrix l.rhs l.g l.y l.j

abbrev pub decreases-loop-j : goal.decreases-loop-j
decreases-loop-j l = l.l.links - l.j
