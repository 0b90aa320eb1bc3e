-- `marks::put` meets its contract. Assumes nothing.
use native.Mathlib.Omega.{arith}
use lib.ListN.{length-set}
use borrow.Author.Rules.{rules}
use Rattle.marks.specs.Marks.{put_of}
use Rattle.marks.proofs.put.Goals as goal

pub bounds-entries-i-2 : goal.bounds-entries-i-2
bounds-entries-i-2 c = simp length-set (omega arith)

pub bounds-entries-i-3 : goal.bounds-entries-i-3
bounds-entries-i-3 c = simp length-set (omega arith)

pub bounds-entries-i-4 : goal.bounds-entries-i-4
bounds-entries-i-4 c = simp length-set (omega arith)

pub shape_of-entries : goal.shape_of-entries
shape_of-entries c = simp length-set

pub returns : goal.returns
unfolding put_of
returns c = search rules
