-- `pressures_low::too_low` meets its contract. Assumes nothing.
use mathlib.Core.Path.{refl}
use Rattle.pressures_low.specs.Low.{too_low}
use Rattle.pressures_low.proofs.too_low.Goals as goal

pub returns : goal.returns
unfolding too_low
returns c = refl
