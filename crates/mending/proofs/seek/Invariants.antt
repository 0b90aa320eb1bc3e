-- `mending::seek` meets its contract. Assumes nothing.
use Prim.Native.Nat.{ℕ, ◌-◌, ◌≤◌, ◌<◌}
use lib.ListN.{get_or}
use Rattle.mending.proofs.seek.Given as goal

abbrev pub invariant-loop-p : goal.invariant-loop-p
invariant-loop-p l = (get_or l.places l.i 0 ≤ l.p) × ((l.p ≤ l.last) × ((t : ℕ) → get_or l.places l.i 0 ≤ t → t < l.p → get_or l.listed t 0 < l.j))

abbrev pub decreases-loop-p : goal.decreases-loop-p
decreases-loop-p l = l.last - l.p
