-- `tanks::tank_links` meets its contract. Assumes nothing.
use Rattle.tanks.proofs.Turns.{Reached}
use Rattle.tanks.specs.Tanks.{tank_updates}
use Prim.Native.Nat.{◌-◌}
use Rattle.tanks.proofs.tank_links.Given as goal

abbrev pub invariant-loop-i : goal.invariant-loop-i
invariant-loop-i l = Reached l.l.nodes (tank_updates l.sheet l.l l.heads l.flows) l.initial.demands l.initial.statuses l.demands l.statuses l.i

abbrev pub decreases-loop-i : goal.decreases-loop-i
decreases-loop-i l = l.l.nodes - l.i
