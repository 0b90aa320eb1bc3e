-- `state::put_head` meets its contract. Assumes nothing.
use native.Mathlib.Omega.{arith}
use Rattle.state.proofs.Turns.{head_fixed, head_unknown}
use Rattle.state.proofs.put_head.Goals as goal

pub returns-in_default : goal.returns-in_default
returns-in_default c = head_fixed _ _ _ _ c.in_default.is

pub offset_bounds-x-k : goal.offset_bounds-x-k
offset_bounds-x-k c = omega (arith, c.requires.row_below.below _ c.in-Some.is)

pub bounds-x-k : goal.bounds-x-k
bounds-x-k c = omega (arith, c.requires.row_below.below _ c.in-Some.is)

pub returns : goal.returns
returns c = head_unknown _ _ _ _ _ c.in-Some.is
