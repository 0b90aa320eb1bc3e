-- `update::change_at` meets its contract. Assumes nothing.
use Rattle.update.proofs.Made.{change_of_lem}
use borrow.Author.Rules.{rules}
use Rattle.update.proofs.change_at.Goals as goal

pub returns : goal.returns
returns c = change_of_lem _ _ _ _ _ _ _ _ _ _ c.elevation-up.ensures c.elevation-down.ensures c.from.ensures c.updated.ensures
