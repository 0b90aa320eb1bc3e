-- `drawing::bend_within` meets its contract. Assumes nothing.
use Rattle.drawing.specs.Drawing.{within}
use Rattle.drawing.proofs.bend_within.Goals as goal

pub returns-then-hgrad : goal.returns-then-hgrad
unfolding within
returns-then-hgrad c = rw c.if-hgrad.true

pub returns : goal.returns
unfolding within
returns c = rw c.if-hgrad.false
