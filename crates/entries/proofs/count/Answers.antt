-- `entries::count` meets its contract. Assumes nothing.
use mathlib.Core.Path.{◌∙◌}
use borrow.Author.Rules.{rules}
use Rattle.entries.specs.Entries.{counted}
use Rattle.entries.proofs.count.Goals as goal

pub returns-in-Freed : goal.returns-in-Freed
unfolding counted
returns-in-Freed c = rw c.in-Freed.is

pub returns-in-Grounded : goal.returns-in-Grounded
unfolding counted
returns-in-Grounded c = rw c.in-Grounded.is

pub returns-in-Singular : goal.returns-in-Singular
unfolding counted
returns-in-Singular c = rw c.in-Singular.is c.one_more.ensures

pub returns-in-Wild : goal.returns-in-Wild
unfolding counted
returns-in-Wild c = rw c.in-Wild.is c.one_more-in-Wild.ensures

pub returns-in-Stepped : goal.returns-in-Stepped
unfolding counted
returns-in-Stepped c = rw c.in-Stepped.is c.one_more-in-Stepped.ensures

pub returns-in-Converged : goal.returns-in-Converged
unfolding counted
returns-in-Converged c = rw c.in-Converged.is c.one_more-in-Converged.ensures
