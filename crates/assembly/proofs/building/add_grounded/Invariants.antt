-- `assembly::building::add_grounded` meets its contract. Assumes nothing.
use Rattle.assembly.specs.Assembly.{grounded_of}
use mathlib.Core.Path.{◌≡◌}
use lib.ListN.{length}
use Rattle.assembly.proofs.building.add_grounded.Given as goal

abbrev pub invariant-loop-i : goal.invariant-loop-i
invariant-loop-i l = (l.matrix ≡ grounded_of l.sheet l.fn.l l.grounded l.i l.initial.matrix) × (length l.matrix ≡ length l.initial.matrix)
