-- `columns::add_to` meets its contract. Assumes nothing.
use Rattle.columns.specs.Columns.{add_to}
use mathlib.Core.Path.{refl}
use Rattle.columns.proofs.add_to.Goals as goal

pub returns : goal.returns
unfolding add_to
returns c = refl
