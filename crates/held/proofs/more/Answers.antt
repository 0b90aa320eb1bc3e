-- `held::more` meets its contract. Assumes nothing.
use borrow.Author.Rules.{rules}
use mathlib.Core.Path.{◌≡◌}
use Rattle.held.proofs.more.Goals as goal

pub returns : goal.returns
returns c = rw c.failed.ensures
