-- `tolerance::within` meets its contract. Assumes nothing.
use borrow.Author.Rules.{rules}
use Rattle.tolerance.proofs.Withins.{within_is}
use Rattle.tolerance.proofs.within.Goals as goal

pub returns : goal.returns
returns c = within_is _ _ _ c.abs.ensures
