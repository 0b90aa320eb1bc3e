-- `columns::take_from` meets its contract. Assumes nothing.
use Rattle.columns.specs.Columns.{take_from}
use mathlib.Core.Path.{refl}
use Rattle.columns.proofs.take_from.Goals as goal

pub returns : goal.returns
unfolding take_from
returns c = refl
