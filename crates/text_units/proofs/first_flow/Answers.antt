-- `text_units::first_flow` meets its contract. Assumes nothing.
use mathlib.Core.Path.{refl}
use Rattle.text_units.specs.Units.{first_flow}
use Rattle.text_units.proofs.first_flow.Goals as goal

pub returns : goal.returns
unfolding first_flow
returns c = refl
