-- `decimal_words::digits::small_value` meets its contract. Assumes nothing.
use native.Mathlib.Omega.{arith}
use Rattle.decimal_words.proofs.Turns.{limit_from, limit_next, limit_ends}
use Rattle.decimal_words.proofs.digits.small_value.Goals as goal

pub overflow_sub-c : goal.overflow_sub-c
overflow_sub-c c = limit_from c.loop-c.invariant c.loop-c-test.true

pub loop-c-preserved : goal.loop-c-preserved
loop-c-preserved c = limit_next c.loop-c.invariant c.loop-c-test.true _ (omega (arith, c.min-v.ensures))

pub returns : goal.returns
returns c = limit_ends c.loop-c.invariant (omega (arith, c.loop-c-test.false))
