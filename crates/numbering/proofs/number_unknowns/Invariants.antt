-- `numbering::number_unknowns` meets its contract: after i nodes the column holds the numbers of the first i. Assumes nothing.
use Prim.Native.Nat.{◌-◌}
use Rattle.numbering.proofs.Numbers.{Numbered}
use Rattle.numbering.proofs.number_unknowns.Given as goal

abbrev pub invariant-loop-i : goal.invariant-loop-i
invariant-loop-i l = Numbered l.sheet l.l l.initial.unknowns l.unknowns l.count l.i

abbrev pub decreases-loop-i : goal.decreases-loop-i
decreases-loop-i l = l.l.nodes - l.i
