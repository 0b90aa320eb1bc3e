-- `damping::steps::relative_change` meets its contract. Assumes nothing.
use Rattle.damping.specs.Damping.{relative_change}
use Rattle.damping.proofs.steps.relative_change.Goals as goal

pub returns-then-sum_q-accuracy : goal.returns-then-sum_q-accuracy
unfolding relative_change
returns-then-sum_q-accuracy c = simp c.if-sum_q-accuracy.true

pub returns : goal.returns
unfolding relative_change
returns c = simp c.if-sum_q-accuracy.false
