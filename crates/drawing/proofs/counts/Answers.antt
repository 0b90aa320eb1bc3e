-- `drawing::counts` meets its contract. Assumes nothing.
use borrow.Author.Rules.{rules}
use Rattle.drawing.specs.Drawing.{counting}
use Rattle.drawing.proofs.counts.Goals as goal

pub returns-then-pressures : goal.returns-then-pressures
unfolding counting
returns-then-pressures c = search rules

pub returns-else-pressures : goal.returns-else-pressures
unfolding counting
returns-else-pressures c = search rules
