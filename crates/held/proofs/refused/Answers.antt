-- `held::refused` meets its contract. Assumes nothing.
use borrow.Author.Rules.{rules}
use mathlib.Core.Path.{◌≡◌}
use Rattle.held.proofs.refused.Goals as goal

pub returns : goal.returns
returns c = rw c.failed.ensures
