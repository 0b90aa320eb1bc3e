-- `causes::told_number` meets its contract. Assumes nothing.
use native.Mathlib.Omega.{arith}
use Rattle.causes.specs.Causes.{flip_number}
use Rattle.causes.proofs.Laws.{cause_small, number_of}
use borrow.Author.Rules.{rules}
use Rattle.causes.proofs.flip_number.Goals as goal

pub overflow_mul-result : goal.overflow_mul-result
overflow_mul-result c = omega (arith, c.cause_code-high.ensures, cause_small c.in-Some.cause)

pub overflow_add-result : goal.overflow_add-result
overflow_add-result c = omega (arith, c.cause_code-high.ensures, cause_small c.in-Some.cause)

pub returns-in-None : goal.returns-in-None
unfolding flip_number
returns-in-None c = rw c.in-None.is

pub returns-in-Some : goal.returns-in-Some
returns-in-Some c = number_of _ _ _ _ c.in-Some.is c.cause_code-high.ensures
