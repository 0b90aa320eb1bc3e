-- `valves::right_side` meets its contract. Assumes nothing.
use Rattle.valves.specs.Valve.{right_side}
use Rattle.valves.proofs.right_side.Goals as goal

pub returns-then-counts : goal.returns-then-counts
unfolding right_side
returns-then-counts c = simp c.if-counts.true

pub returns : goal.returns
unfolding right_side
returns c = simp c.if-counts.false
