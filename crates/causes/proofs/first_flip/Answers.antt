-- `causes::told_first` meets its contract. Assumes nothing.
use borrow.Author.Rules.{rules}
use Rattle.causes.specs.Causes.{first_flip}
use Rattle.causes.proofs.first_flip.Goals as goal

pub returns-in-None : goal.returns-in-None
unfolding first_flip
returns-in-None c = rw c.in-None.is

pub returns-in-Some : goal.returns-in-Some
unfolding first_flip
returns-in-Some c = rw c.in-Some.is
