-- `spelled::spells` meets its contract. Assumes nothing.
use Rattle.spelled.specs.Spelled.{capital_of}
use Rattle.spelled.proofs.Agree.{Passed}
use Rattle.spelled.proofs.spells.Given as goal

abbrev pub invariant-loop-i : goal.invariant-loop-i
invariant-loop-i l = Passed capital_of l.word l.keyword l.i
