-- `rowwise::single::width` meets its contract. Assumes nothing.
use borrow.Author.Rules.{rules}
use Rattle.rowwise.specs.Evening.{width_of}
use Rattle.rowwise.proofs.single.width.Goals as goal

pub returns-in-None : goal.returns-in-None
unfolding width_of
returns-in-None c = rw c.in-None.is

pub returns-in-Some : goal.returns-in-Some
unfolding width_of
returns-in-Some c = rw c.in-Some.is
