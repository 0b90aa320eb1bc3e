-- `repairs_shown::shows` meets its contract. Assumes nothing.
use mathlib.Core.Path.{refl}
use Rattle.repairs_shown.specs.Shown.{shows}
use Rattle.repairs_shown.proofs.shows.Goals as goal

pub returns : goal.returns
unfolding shows
returns c = refl
