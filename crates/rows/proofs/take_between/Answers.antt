-- `rows::take_between` meets its contract. Assumes nothing.
use Rattle.rows.proofs.Placing.{between_first, between-second, between-less, between_more}
use borrow.Author.Rules.{rules}
use native.Mathlib.Omega.{arith}
use Rattle.rows.proofs.take_between.Goals as goal

pub returns-in_default : goal.returns-in_default
returns-in_default c = between_first _ _ _ _ c.in_default.is

pub returns-in_default-end : goal.returns-in_default-end
returns-in_default-end c = between-second _ _ _ _ _ c.in-Some.is c.in_default-end.is

pub overflow_mul-i : goal.overflow_mul-i
overflow_mul-i c = omega (arith, c.requires.row_below.below _ c.in-Some.is, c.requires.row_below_2.below _ c.in-Some-end.is)

pub overflow_add-i : goal.overflow_add-i
overflow_add-i c = omega (arith, c.requires.row_below.below _ c.in-Some.is, c.requires.row_below_2.below _ c.in-Some-end.is)

pub take_from-requires : goal.take_from-requires
take_from-requires c = omega (arith, c.requires.row_below.below _ c.in-Some.is, c.requires.row_below_2.below _ c.in-Some-end.is)

pub overflow_mul-j : goal.overflow_mul-j
overflow_mul-j c = omega (arith, c.requires.row_below.below _ c.in-Some.is, c.requires.row_below_2.below _ c.in-Some-end.is)

pub overflow_add-j : goal.overflow_add-j
overflow_add-j c = omega (arith, c.requires.row_below.below _ c.in-Some.is, c.requires.row_below_2.below _ c.in-Some-end.is)

pub take_from-requires-else-i-j : goal.take_from-requires-else-i-j
take_from-requires-else-i-j c = omega (arith, c.requires.row_below.below _ c.in-Some.is, c.requires.row_below_2.below _ c.in-Some-end.is)

pub returns-then-i-j : goal.returns-then-i-j
returns-then-i-j c = between-less _ _ _ _ _ _ _ c.in-Some.is c.in-Some-end.is c.if-i-j.true c.take_from.ensures

pub returns-else-i-j : goal.returns-else-i-j
returns-else-i-j c = between_more _ _ _ _ _ _ _ c.in-Some.is c.in-Some-end.is c.if-i-j.false c.take_from-else-i-j.ensures
