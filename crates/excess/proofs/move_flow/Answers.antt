-- `excess::move_flow` meets its contract. Assumes nothing.
use Rattle.excess.proofs.Turns.{shifted_of}
use borrow.Author.Rules.{rules}
use Rattle.excess.proofs.move_flow.Goals as goal

pub returns : goal.returns
returns c = shifted_of _ _ _ _ _ _ c.take_from.ensures c.add_to.ensures
