-- `bends::add_bends` meets its contract. Assumes nothing.
use borrow.Author.Rules.{rules}
use Rattle.layout.proofs.Laws.{pressures_within}
use Rattle.bends.proofs.Laws.{bent_pressures, bent_none}
use Rattle.bends.proofs.add_bends.Goals as goal

pub pressures_of-requires : goal.pressures_of-requires
pressures_of-requires c = pressures_within _ _ c.requires.bending.laid c.if-l.true

pub returns-then-l-clause-matrix : goal.returns-then-l-clause-matrix
returns-then-l-clause-matrix c =
    (bent_pressures _ _ _ _ _ _ _ _ _ c.if-l.true c.pressures_of.ensures c.bend_nodes.ensures.matrix c.bend_nodes.ensures.rhs).0

pub returns-then-l-clause-rhs : goal.returns-then-l-clause-rhs
returns-then-l-clause-rhs c =
    (bent_pressures _ _ _ _ _ _ _ _ _ c.if-l.true c.pressures_of.ensures c.bend_nodes.ensures.matrix c.bend_nodes.ensures.rhs).1

pub returns-else-l-clause-matrix : goal.returns-else-l-clause-matrix
returns-else-l-clause-matrix c =
    (bent_none _ _ _ _ c.args.matrix.now c.args.rhs.now c.if-l.false).0

pub returns-else-l-clause-rhs : goal.returns-else-l-clause-rhs
returns-else-l-clause-rhs c =
    (bent_none _ _ _ _ c.args.matrix.now c.args.rhs.now c.if-l.false).1
