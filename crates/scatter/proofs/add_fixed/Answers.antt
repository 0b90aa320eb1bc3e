-- `scatter::add_fixed` meets its contract. Assumes nothing.
use Rattle.scatter.proofs.Placing.{fixed_none, fixed_some}
use borrow.Author.Rules.{rules}
use Rattle.scatter.proofs.add_fixed.Goals as goal

pub returns-then-fixed : goal.returns-then-fixed
returns-then-fixed c = fixed_some _ _ _ _ _ c.if-fixed.true c.add_to_row.ensures

pub returns-else-fixed : goal.returns-else-fixed
returns-else-fixed c = fixed_none _ _ _ _ c.if-fixed.false
