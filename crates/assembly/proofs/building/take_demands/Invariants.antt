-- `assembly::building::take_demands` meets its contract. Assumes nothing.
use Rattle.assembly.specs.Assembly.{demands_taken}
use mathlib.Core.Path.{◌≡◌}
use lib.ListN.{length}
use Rattle.assembly.proofs.building.take_demands.Given as goal

abbrev pub invariant-loop-i : goal.invariant-loop-i
invariant-loop-i l = (l.rhs ≡ demands_taken l.sheet l.fn.l l.demands l.i l.initial.rhs) × (length l.rhs ≡ length l.initial.rhs)
