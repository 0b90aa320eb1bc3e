-- `drawing::pressure_range` meets its contract. Assumes nothing.
use borrow.Author.Rules.{rules}
use Rattle.drawing.specs.Drawing.{range_of}
use Rattle.drawing.proofs.pressure_range.Goals as goal

pub returns : goal.returns
unfolding range_of
returns c = c.larger.ensures
