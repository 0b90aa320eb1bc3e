-- `fields::fields::base_bounds` meets its contract. Assumes nothing.
use mathlib.Core.Path.{refl}
use Rattle.fields.specs.Fields.{base_bounds}
use Rattle.fields.proofs.fields.base_bounds.Goals as goal

pub returns : goal.returns
unfolding base_bounds
returns c = refl
