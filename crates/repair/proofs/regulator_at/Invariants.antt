use Prim.Native.Nat.{◌-◌, ◌≤◌}
use mathlib.Core.Path.{◌≡◌}
use lib.ListN.{get_or}
use Rattle.links.specs.Links.{link_start, link_end}
use Rattle.touching.specs.Touching.{touching_at}
use Rattle.touching.proofs.Walk.{left_from}
use Rattle.repair.specs.Repair.{regulator_at}
use Rattle.repair.proofs.Laws.{first_in}
use Rattle.repair.proofs.regulator_at.Given as goal

abbrev pub invariant-loop-p : goal.invariant-loop-p
invariant-loop-p l =
    (get_or l.places l.i 0 ≤ l.p) × (first_in l.sheet l.l l.statuses l.i (left_from (touching_at (link_start l.sheet l.l) (link_end l.sheet l.l) l.l.links l.i) (get_or l.places l.i 0) l.p) ≡ regulator_at l.sheet l.l l.statuses l.i)

abbrev pub decreases-loop-p : goal.decreases-loop-p
decreases-loop-p l = l.last - l.p
