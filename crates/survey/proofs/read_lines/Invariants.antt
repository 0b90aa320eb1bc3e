-- `survey::read_lines` meets its contract: a turn takes the first of the lines that are left, and the place goes on. Assumes nothing.
use Prim.Native.Nat.{◌-◌}
use lib.ListN.{length}
use Rattle.survey.proofs.Laws.{Going}
use Rattle.survey.proofs.read_lines.Given as goal

abbrev pub invariant-loop-fault : goal.invariant-loop-fault
invariant-loop-fault l = Going l.text l.known l.at l.line

abbrev pub decreases-loop-fault : goal.decreases-loop-fault
decreases-loop-fault l = length l.text - l.at
