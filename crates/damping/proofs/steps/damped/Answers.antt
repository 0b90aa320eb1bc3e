-- `damping::steps::damped` meets its contract. Assumes nothing.
use Rattle.damping.specs.Damping.{damped_of}
use borrow.Author.Rules.{rules}
use Rattle.damping.proofs.steps.damped.Goals as goal

pub returns-then-change-previous : goal.returns-then-change-previous
unfolding damped_of
returns-then-change-previous c = simp (c.larger.ensures, c.if-change-previous.true)

pub returns-then-change-previous-2 : goal.returns-then-change-previous-2
unfolding damped_of
returns-then-change-previous-2 c = simp (c.if-change-previous.false, c.if-change-previous-2.true)

pub returns-then-change-previous-3 : goal.returns-then-change-previous-3
unfolding damped_of
returns-then-change-previous-3 c = simp (c.smaller.ensures, c.if-change-previous.false, c.if-change-previous-2.false, c.if-change-previous-3.true)

pub returns : goal.returns
unfolding damped_of
returns c = simp (c.if-change-previous.false, c.if-change-previous-2.false, c.if-change-previous-3.false)
