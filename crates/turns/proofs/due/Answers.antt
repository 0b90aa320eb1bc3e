-- `turns::due` meets its contract. Assumes nothing.
use mathlib.Core.Path.{refl}
use Rattle.turns.specs.Turns.{due}
use Rattle.turns.proofs.due.Goals as goal

pub returns : goal.returns
unfolding due
returns c = refl
