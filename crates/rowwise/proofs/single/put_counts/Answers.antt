-- `rowwise::single::put_counts` meets its contract. Assumes nothing.
use borrow.Author.Rules.{rules}
use native.Mathlib.Omega.{arith}
use mathlib.Core.Path.{refl}
use lib.ListN.{length-set}
use Rattle.rowwise.specs.Evening.{counts_put}
use Rattle.rowwise.proofs.single.put_counts.Goals as goal

pub bounds-counts-1 : goal.bounds-counts-1
bounds-counts-1 c = simp length-set (omega arith)

pub bounds-counts-2 : goal.bounds-counts-2
bounds-counts-2 c = simp length-set (omega arith)

pub bounds-counts-3 : goal.bounds-counts-3
bounds-counts-3 c = simp length-set (omega arith)

pub bounds-counts-4 : goal.bounds-counts-4
bounds-counts-4 c = simp length-set (omega arith)

pub shape_of-counts : goal.shape_of-counts
shape_of-counts c = simp length-set (omega arith)

pub returns : goal.returns
unfolding counts_put
returns c = refl
