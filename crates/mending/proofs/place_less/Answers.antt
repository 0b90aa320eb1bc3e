-- `mending::place_less` meets its contract. Assumes nothing.
use native.Mathlib.Omega.{arith}
use Rattle.mending.proofs.Loops.{lessening_none, lessening_next, lessened}
use Rattle.mending.proofs.place_less.Goals as goal

pub loop-i-init : goal.loop-i-init
loop-i-init c = lessening_none _ _ _ c.requires.x_lt_y.0

pub overflow_sub-places : goal.overflow_sub-places
overflow_sub-places c = omega (arith, c.loop-i.invariant.left c.loop-i.i (omega arith), c.requires.by_index c.loop-i.i c.loop-i.invariant.from c.loop-i-test.true)

pub loop-i-preserved : goal.loop-i-preserved
loop-i-preserved c = lessening_next _ _ _ _ _ c.loop-i.invariant c.loop-i-test.true c.requires.x_lt_y.1 (c.requires.by_index c.loop-i.i c.loop-i.invariant.from c.loop-i-test.true)

pub returns : goal.returns
returns c = lessened _ _ _ _ _ c.loop-i.invariant c.loop-i-test.false
