-- `link_laws::change_by` meets its contract. Assumes nothing.
use borrow.Author.Rules.{rules}
use mathlib.Core.Path.{refl}
use Rattle.link_laws.specs.LinkLaws.{change_by}
use Rattle.link_laws.proofs.change_by.Goals as goal

pub returns : goal.returns
unfolding change_by
returns c = refl
