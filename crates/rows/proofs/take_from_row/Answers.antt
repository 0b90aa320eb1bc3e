-- `rows::take_from_row` meets its contract. Assumes nothing.
use Rattle.rows.proofs.Placing.{off_row_none, off-row-some}
use borrow.Author.Rules.{rules}
use native.Mathlib.Omega.{arith}
use Rattle.rows.proofs.take_from_row.Goals as goal

pub returns-in_default : goal.returns-in_default
returns-in_default c = off_row_none _ _ _ c.in_default.is

pub take_from-requires : goal.take_from-requires
take_from-requires c = omega (arith, c.requires.row_below.below _ c.in-Some.is)

pub returns : goal.returns
returns c = off-row-some _ _ _ _ _ c.in-Some.is c.take_from.ensures
