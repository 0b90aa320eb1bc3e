-- `desk::place_of` meets its contract. Assumes nothing.
use mathlib.Core.Path.{refl}
use Rattle.desk.specs.Desk.{place_of}
use Rattle.desk.proofs.place_of.Goals as goal

pub returns : goal.returns
unfolding place_of
returns c = refl
