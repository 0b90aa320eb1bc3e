-- `drawing::bend_of` meets its contract. Assumes nothing.
use borrow.Author.Rules.{rules}
use mathlib.Core.Path.{sym}
use Rattle.drawing.specs.Drawing.{bend_of}
use Rattle.drawing.proofs.bend_of.Goals as goal

pub returns-then-factor : goal.returns-then-factor
unfolding bend_of
returns-then-factor c = rw c.if-factor.true

pub returns-then-factor-2 : goal.returns-then-factor-2
unfolding bend_of
returns-then-factor-2 c = rw (c.if-factor.false, c.if-factor-2.true) c.bend_within.ensures

pub returns : goal.returns
unfolding bend_of
returns c = rw (c.if-factor.false, c.if-factor-2.false)
