-- `rowwise::single::put_totals` meets its contract. Assumes nothing.
use borrow.Author.Rules.{rules}
use native.Mathlib.Omega.{arith}
use mathlib.Core.Path.{refl}
use lib.ListN.{length-set}
use Rattle.rowwise.specs.Evening.{totals_put}
use Rattle.rowwise.proofs.single.put_totals.Goals as goal

pub bounds-totals-1 : goal.bounds-totals-1
bounds-totals-1 c = simp length-set (omega arith)

pub bounds-totals-2 : goal.bounds-totals-2
bounds-totals-2 c = simp length-set (omega arith)

pub shape_of-totals : goal.shape_of-totals
shape_of-totals c = simp length-set (omega arith)

pub returns : goal.returns
unfolding totals_put
returns c = refl
