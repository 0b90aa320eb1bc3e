-- `status::closed_if_negative` meets its contract. Assumes nothing.
use Rattle.status.specs.Rules.{closed_if_negative}
use Rattle.status.proofs.closed_if_negative.Goals as goal

pub returns-then-q : goal.returns-then-q
unfolding closed_if_negative
returns-then-q c = simp c.if-q.true

pub returns : goal.returns
unfolding closed_if_negative
returns c = simp c.if-q.false
