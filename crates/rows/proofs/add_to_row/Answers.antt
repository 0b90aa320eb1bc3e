-- `rows::add_to_row` meets its contract. Assumes nothing.
use Rattle.rows.proofs.Placing.{row_none, row-some}
use borrow.Author.Rules.{rules}
use native.Mathlib.Omega.{arith}
use Rattle.rows.proofs.add_to_row.Goals as goal

pub returns-in_default : goal.returns-in_default
returns-in_default c = row_none _ _ _ c.in_default.is

pub add_to-requires : goal.add_to-requires
add_to-requires c = omega (arith, c.requires.row_below.below _ c.in-Some.is)

pub returns : goal.returns
returns c = row-some _ _ _ _ _ c.in-Some.is c.add_to.ensures
