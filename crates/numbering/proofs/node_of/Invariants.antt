-- `numbering::node_of` meets its contract: after i nodes the node is what the first i give. Assumes nothing.
use mathlib.Core.Path.{◌≡◌}
use Rattle.numbering.specs.Numbering.{node_numbered}
use Rattle.numbering.proofs.node_of.Given as goal

abbrev pub invariant-loop-i : goal.invariant-loop-i
invariant-loop-i l = l.node ≡ node_numbered l.sheet l.fn.l l.i l.unknown.0
