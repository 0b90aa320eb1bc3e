-- `numbering::unknown_of` meets its contract. Assumes nothing.
use lib.ListN.{get_or}
use borrow.Author.Tests.{eq-eqb, ne_eqb}
use Rattle.numbering.specs.Numbering.{no_unknown, row_of}
use Rattle.numbering.proofs.unknown_of.Goals as goal

pub returns-then-u-eq-NO_UNKNOWN : goal.returns-then-u-eq-NO_UNKNOWN
unfolding row_of
returns-then-u-eq-NO_UNKNOWN c = simp (eq-eqb (get_or c.args.unknowns.now c.args.node.0 0) no_unknown c.if-u-eq-NO_UNKNOWN.true)

pub returns-else-u-eq-NO_UNKNOWN : goal.returns-else-u-eq-NO_UNKNOWN
unfolding row_of
returns-else-u-eq-NO_UNKNOWN c = simp (ne_eqb (get_or c.args.unknowns.now c.args.node.0 0) no_unknown c.if-u-eq-NO_UNKNOWN.false)
