-- `damping::steps::flow_limit` meets its contract. Assumes nothing.
use Rattle.damping.specs.Damping.{flow_limit}
use Rattle.damping.proofs.steps.flow_limit.Goals as goal

pub returns-then-change : goal.returns-then-change
unfolding flow_limit
returns-then-change c = simp c.if-change.true

pub returns : goal.returns
unfolding flow_limit
returns c = simp c.if-change.false
