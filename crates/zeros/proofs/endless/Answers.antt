-- `zeros::endless` meets its contract. Assumes nothing.
use Rattle.zeros.proofs.Zeros.{endless_test, finite_test}
use Rattle.zeros.proofs.endless.Goals as goal

pub returns-then-x : goal.returns-then-x
returns-then-x c = endless_test _ c.if-x.true

pub returns : goal.returns
returns c = finite_test _ c.if-x.false
