-- `text_units::cubic_feet` meets its contract. Assumes nothing.
use mathlib.Core.Path.{refl}
use Rattle.text_units.specs.Units.{cubic_feet}
use Rattle.text_units.proofs.cubic_feet.Goals as goal

pub returns : goal.returns
unfolding cubic_feet
returns c = refl
