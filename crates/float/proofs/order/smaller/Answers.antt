-- `float::order::smaller` meets its contract. Assumes nothing.
use lib.Ieee.{is_nan}
use Rattle.float.specs.Order.{smaller_of}
use Rattle.patterns.proofs.Nans.{is_nan_lem, not_nan}
use Rattle.float.proofs.order.smaller.Goals as goal

pub returns-then-x : goal.returns-then-x
unfolding smaller_of is_nan
returns-then-x c = rw (is_nan_lem _ c.if-x.true)

pub returns-then-y-x : goal.returns-then-y-x
unfolding smaller_of
returns-then-y-x c = simp (not_nan _ c.if-x.false, c.if-y-x.true)

pub returns-else-y-x : goal.returns-else-y-x
unfolding smaller_of
returns-else-y-x c = simp (not_nan _ c.if-x.false, c.if-y-x.false)
