-- `pipes::with_minor` meets its contract. Assumes nothing.
use Rattle.pipes.specs.Pipe.{with_minor}
use borrow.Author.Rules.{rules}
use Rattle.pipes.proofs.with_minor.Goals as goal

pub returns-then-ml : goal.returns-then-ml
unfolding with_minor
returns-then-ml c = simp (c.whole_power.ensures, c.if-ml.true)

pub returns : goal.returns
unfolding with_minor
returns c = simp c.if-ml.false
