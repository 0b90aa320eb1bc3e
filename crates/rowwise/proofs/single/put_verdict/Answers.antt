-- `rowwise::single::put_verdict` meets its contract. Assumes nothing.
use borrow.Author.Rules.{rules}
use native.Mathlib.Omega.{arith}
use mathlib.Core.Path.{refl}
use lib.ListN.{length-set}
use Rattle.rowwise.specs.Evening.{verdict_put}
use Rattle.rowwise.proofs.single.put_verdict.Goals as goal

pub shape_of-counts : goal.shape_of-counts
shape_of-counts c = simp length-set (omega arith)

pub returns : goal.returns
unfolding verdict_put
returns c = refl
