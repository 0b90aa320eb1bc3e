-- `held::sums_of` meets its contract. Assumes nothing.
use mathlib.Core.Path.{refl}
use Rattle.held.specs.Held.{sums_of}
use Rattle.held.proofs.sums_of.Goals as goal

pub returns : goal.returns
unfolding sums_of
returns c = refl
