-- `float::order::larger` meets its contract. Assumes nothing.
use lib.Ieee.{is_nan}
use Rattle.float.specs.Order.{larger_of}
use Rattle.patterns.proofs.Nans.{is_nan_lem, not_nan}
use Rattle.float.proofs.order.larger.Goals as goal

pub returns-then-a : goal.returns-then-a
unfolding larger_of is_nan
returns-then-a c = rw (is_nan_lem _ c.if-a.true)

pub returns-then-a-b : goal.returns-then-a-b
unfolding larger_of
returns-then-a-b c = simp (not_nan _ c.if-a.false, c.if-a-b.true)

pub returns-else-a-b : goal.returns-else-a-b
unfolding larger_of
returns-else-a-b c = simp (not_nan _ c.if-a.false, c.if-a-b.false)
