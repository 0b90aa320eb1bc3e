-- `determined::mark_held` meets its contract. Assumes nothing.
use native.Mathlib.Omega.{arith}
use Prim.Native.Nat.{◌-◌}
use Rattle.determined.proofs.Laws.{Marked, none_marked, next_marked, all_marked, held_below}
use Rattle.determined.proofs.mark_held.Given as goal

abbrev pub invariant-loop-j : goal.invariant-loop-j
invariant-loop-j l = Marked l.sheet l.l l.statuses l.initial.held l.held l.j

abbrev pub decreases-loop-j : goal.decreases-loop-j
decreases-loop-j l = l.l.links - l.j
