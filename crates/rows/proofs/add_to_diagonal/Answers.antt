-- `rows::add_to_diagonal` meets its contract. Assumes nothing.
use Rattle.rows.proofs.Placing.{diagonal_none, diagonal-some}
use borrow.Author.Rules.{rules}
use native.Mathlib.Omega.{arith}
use Rattle.rows.proofs.add_to_diagonal.Goals as goal

pub returns-in_default : goal.returns-in_default
returns-in_default c = diagonal_none _ _ _ c.in_default.is

pub overflow_mul-i : goal.overflow_mul-i
overflow_mul-i c = omega (arith, c.requires.row_below.below _ c.in-Some.is)

pub overflow_add-i : goal.overflow_add-i
overflow_add-i c = omega (arith, c.requires.row_below.below _ c.in-Some.is)

pub add_to-requires : goal.add_to-requires
add_to-requires c = omega (arith, c.requires.row_below.below _ c.in-Some.is)

pub returns : goal.returns
returns c = diagonal-some _ _ _ _ _ c.in-Some.is c.add_to.ensures
