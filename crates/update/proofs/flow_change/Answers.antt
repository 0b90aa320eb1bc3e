-- `update::flow_change` meets its contract. Assumes nothing.
use Rattle.update.specs.Update.{flow_change}
use borrow.Author.Rules.{rules}
use mathlib.Core.Path.{refl}
use Rattle.update.proofs.flow_change.Goals as goal

pub returns : goal.returns
unfolding flow_change
returns c = refl
