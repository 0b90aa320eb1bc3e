use Prim.Native.Nat.{◌-◌}
use lib.ListN.{get_or}
use Rattle.links.specs.Links.{link_start, link_end}
use Rattle.columns.specs.Columns.{take_from}
use Rattle.touching.specs.Touching.{touching_at}
use Rattle.tanks.specs.Tanks.{tanks, links_from}
use Rattle.tanks.proofs.Walks.{through, Walked}
use Rattle.tanks.proofs.links_from.Given as goal

abbrev pub invariant-loop-p : goal.invariant-loop-p
invariant-loop-p l =
    Walked (get_or l.places l.i 0) (touching_at (link_start l.sheet l.l) (link_end l.sheet l.l) l.l.links l.i) (through (link_start l.sheet l.l) take_from l.empty l.full l.i l.flows) (links_from l.sheet l.l l.i l.flows l.full l.empty l.l.links (tanks l.initial.demands l.initial.statuses)) l.initial.demands l.initial.statuses l.demands l.statuses l.p

abbrev pub decreases-loop-p : goal.decreases-loop-p
decreases-loop-p l = l.last - l.p
