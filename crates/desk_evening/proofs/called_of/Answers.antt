-- `desk_evening::called_of` meets its contract. Assumes nothing.
use mathlib.Core.Path.{refl}
use Rattle.desk_evening.specs.Told.{called_of}
use Rattle.desk_evening.proofs.called_of.Goals as goal

pub returns : goal.returns
unfolding called_of
returns c = refl
