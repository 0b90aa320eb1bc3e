-- `conclusion::give` meets its contract. Assumes nothing.
use borrow.Author.Rules.{rules}
use Rattle.conclusion.proofs.give.Goals as goal

pub returns-clause-heads : goal.returns-clause-heads
returns-clause-heads c = c.copy_first.ensures

pub returns-clause-demands : goal.returns-clause-demands
returns-clause-demands c = c.copy_first-2.ensures

pub returns-clause-flows : goal.returns-clause-flows
returns-clause-flows c = c.copy_first-3.ensures

pub returns-clause-statuses : goal.returns-clause-statuses
returns-clause-statuses c = c.copy_first-4.ensures
