-- `update::recode` meets its contract. Assumes nothing.
use Rattle.update.proofs.Made.{recoded_new, recoded_same}
use borrow.Author.Rules.{rules}
use Rattle.update.proofs.recode.Goals as goal

pub returns-in-Some : goal.returns-in-Some
returns-in-Some c = recoded_new _ _ _ _ _ _ c.in-Some.is c.from.ensures

pub returns-in_default : goal.returns-in_default
returns-in_default c = recoded_same _ _ _ c.in_default.is
