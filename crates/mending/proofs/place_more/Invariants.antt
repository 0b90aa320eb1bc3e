-- `mending::place_more` meets its contract. Assumes nothing.
use Rattle.mending.proofs.Loops.{Rising}
use Rattle.mending.proofs.place_more.Given as goal

abbrev pub invariant-loop-i : goal.invariant-loop-i
invariant-loop-i l = Rising l.x l.y l.initial.places l.places l.i
