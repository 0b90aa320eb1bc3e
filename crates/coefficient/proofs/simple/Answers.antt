-- `coefficient::simple` meets its contract. Assumes nothing.
use mathlib.Core.Path.{refl}
use Rattle.coefficient.specs.Link.{no_addition, simple_of}
use Rattle.coefficient.proofs.simple.Goals as goal

pub returns : goal.returns
unfolding simple_of no_addition
returns c = refl
