-- `held::keep` meets its contract. Assumes nothing.
use mathlib.Core.Path.{refl}
use borrow.Author.Rules.{rules}
use Rattle.held.proofs.keep.Goals as goal

pub returns-clause-sums : goal.returns-clause-sums
returns-clause-sums c = c.sums_of.ensures

pub returns-clause-counts : goal.returns-clause-counts
returns-clause-counts c = c.counts_of.ensures

pub returns-clause-told : goal.returns-clause-told
returns-clause-told c = refl
