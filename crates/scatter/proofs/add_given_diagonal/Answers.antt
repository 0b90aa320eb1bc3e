-- `scatter::add_given_diagonal` meets its contract. Assumes nothing.
use Rattle.scatter.proofs.Placing.{absent_diagonal, given_diagonal_lem}
use borrow.Author.Rules.{rules}
use Rattle.scatter.proofs.add_given_diagonal.Goals as goal

pub returns-in-Some : goal.returns-in-Some
returns-in-Some c = given_diagonal_lem _ _ _ _ _ c.in-Some.is c.add_to_diagonal.ensures

pub returns-in_default : goal.returns-in_default
returns-in_default c = absent_diagonal _ _ _ c.in_default.is
