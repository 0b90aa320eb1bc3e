-- `mending::place_less` meets its contract. Assumes nothing.
use Rattle.mending.proofs.Loops.{Lessening}
use Rattle.mending.proofs.place_less.Given as goal

abbrev pub invariant-loop-i : goal.invariant-loop-i
invariant-loop-i l = Lessening l.x l.y l.initial.places l.places l.i
