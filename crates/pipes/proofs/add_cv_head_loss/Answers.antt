-- `pipes::add_cv_head_loss` meets its contract. Assumes nothing.
use Rattle.pipes.proofs.Made.{barrier}
use borrow.Author.Rules.{rules}
use Rattle.pipes.proofs.add_cv_head_loss.Goals as goal

pub returns : goal.returns
returns c = barrier _ _ _ _ _ c.root-b.ensures c.simple.ensures
