-- `drawing::gives_way` meets its contract. Assumes nothing.
use mathlib.Core.Path.{refl}
use Rattle.drawing.specs.Drawing.{gives_way}
use Rattle.drawing.proofs.gives_way.Goals as goal

pub returns : goal.returns
unfolding gives_way
returns c = refl
