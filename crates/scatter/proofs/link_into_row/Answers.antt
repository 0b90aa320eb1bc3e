-- `scatter::link_into_row` meets its contract. Assumes nothing.
use Rattle.scatter.proofs.Placing.{row_of}
use borrow.Author.Rules.{rules}
use native.Mathlib.Omega.{arith}
use Rattle.scatter.proofs.link_into_row.Goals as goal

pub add_given_row-requires-2-clause-in_bounds : goal.add_given_row-requires-2-clause-in_bounds
add_given_row-requires-2-clause-in_bounds c = omega (arith, c.requires.in_bounds, c.take_from_row.auto.rhs, c.add_fixed.auto.rhs, c.add_to_row.auto.rhs, c.add_fixed-2.auto.rhs, c.add_given_row.auto.rhs)

pub add_given_row-requires-2-clause-row_below : goal.add_given_row-requires-2-clause-row_below
add_given_row-requires-2-clause-row_below c = c.requires.row_below_2

pub returns : goal.returns
returns c = row_of _ _ _ _ _ _ _ _ _ _ _ _ _ _ _ c.take_from_row.ensures c.add_fixed.ensures c.add_to_row.ensures c.add_fixed-2.ensures c.add_given_row.ensures c.add_given_row-2.ensures
