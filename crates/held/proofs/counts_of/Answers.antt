-- `held::counts_of` meets its contract. Assumes nothing.
use borrow.Author.Rules.{rules}
use Rattle.held.specs.Held.{counts_of}
use Rattle.held.proofs.counts_of.Goals as goal

pub returns : goal.returns
unfolding counts_of
returns c = rw c.from.ensures
