-- `mending::place_more` meets its contract. Assumes nothing.
use native.Mathlib.Omega.{arith}
use Rattle.mending.proofs.Loops.{rising_none, rising_next, risen}
use Rattle.mending.proofs.place_more.Goals as goal

pub loop-i-init : goal.loop-i-init
loop-i-init c = rising_none _ _ _ c.requires.x_lt_y.0

pub overflow_add-places : goal.overflow_add-places
overflow_add-places c = omega (arith, c.loop-i.invariant.left c.loop-i.i (omega arith), c.requires.by_index c.loop-i.i c.loop-i.invariant.from c.loop-i-test.true)

pub loop-i-preserved : goal.loop-i-preserved
loop-i-preserved c = rising_next _ _ _ _ _ c.loop-i.invariant c.loop-i-test.true c.requires.x_lt_y.1

pub returns : goal.returns
returns c = risen _ _ _ _ _ c.loop-i.invariant c.loop-i-test.false
