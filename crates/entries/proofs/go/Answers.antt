-- `entries::go` meets its contract. Assumes nothing.
use borrow.Author.Rules.{rules}
use Rattle.entries.specs.Entries.{going_of}
use Rattle.entries.proofs.go.Goals as goal

pub returns-in-Freed : goal.returns-in-Freed
unfolding going_of
returns-in-Freed c = rw c.in-Freed.is

pub returns-in-Grounded : goal.returns-in-Grounded
unfolding going_of
returns-in-Grounded c = rw c.in-Grounded.is

pub returns-in-Singular : goal.returns-in-Singular
unfolding going_of
returns-in-Singular c = rw c.in-Singular.is

pub returns-in-Wild : goal.returns-in-Wild
unfolding going_of
returns-in-Wild c = rw c.in-Wild.is

pub returns-in-Stepped : goal.returns-in-Stepped
unfolding going_of
returns-in-Stepped c = rw c.in-Stepped.is

pub returns-in-Converged : goal.returns-in-Converged
unfolding going_of
returns-in-Converged c = rw c.in-Converged.is
