-- `scatter::add_given_row` meets its contract. Assumes nothing.
use Rattle.scatter.proofs.Placing.{absent_row, given_row_lem}
use borrow.Author.Rules.{rules}
use Rattle.scatter.proofs.add_given_row.Goals as goal

pub returns-in-Some : goal.returns-in-Some
returns-in-Some c = given_row_lem _ _ _ _ _ c.in-Some.is c.add_to_row.ensures

pub returns-in_default : goal.returns-in_default
returns-in_default c = absent_row _ _ _ c.in_default.is
