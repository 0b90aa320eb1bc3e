-- `scatter::link_into_matrix` meets its contract. Assumes nothing.
use Rattle.scatter.proofs.Placing.{matrix_of}
use borrow.Author.Rules.{rules}
use Rattle.scatter.proofs.link_into_matrix.Goals as goal

pub returns : goal.returns
returns c = matrix_of _ _ _ _ _ _ _ _ _ c.add_to_diagonal.ensures c.add_to_diagonal-2.ensures c.take_between.ensures c.add_given_diagonal.ensures c.add_given_diagonal-2.ensures
