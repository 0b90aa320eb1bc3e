-- `coefficient::held` meets its contract. Assumes nothing.
use mathlib.Core.Path.{refl}
use Rattle.coefficient.specs.Link.{held_at}
use Rattle.coefficient.proofs.held.Goals as goal

pub returns : goal.returns
unfolding held_at
returns c = refl
