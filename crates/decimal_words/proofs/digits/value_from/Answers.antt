-- `decimal_words::digits::value_from` meets its contract. Assumes nothing.
use native.Mathlib.Omega.{arith}
use Rattle.decimal_words.proofs.Turns.{digit_from, digit_to, count_small, count_next, count_ends}
use Rattle.decimal_words.proofs.digits.value_from.Goals as goal

pub overflow_mul-v : goal.overflow_mul-v
overflow_mul-v c = omega (arith, count_small c.loop-c.invariant c.loop-c-test.true)

pub overflow_sub-v : goal.overflow_sub-v
overflow_sub-v c = digit_from c.loop-c.invariant c.loop-c-test.true

pub overflow_add-v : goal.overflow_add-v
overflow_add-v c = omega (arith, count_small c.loop-c.invariant c.loop-c-test.true, digit_to c.loop-c.invariant c.loop-c-test.true)

pub loop-c-preserved : goal.loop-c-preserved
loop-c-preserved c = count_next c.loop-c.invariant c.loop-c-test.true

pub returns : goal.returns
returns c = count_ends c.loop-c.invariant (omega (arith, c.loop-c-test.false))
