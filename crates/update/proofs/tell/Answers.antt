-- `update::tell` meets its contract. Assumes nothing.
use Rattle.update.proofs.Made.{telling_same, telling_new}
use borrow.Author.Rules.{rules}
use Rattle.update.proofs.tell.Goals as goal

pub returns-in-None : goal.returns-in-None
returns-in-None c = telling_same _ _ _ c.in-None.is

pub returns-in-Some : goal.returns-in-Some
returns-in-Some c = telling_new _ _ _ _ _ _ c.in-Some.is c.first_flip.ensures
