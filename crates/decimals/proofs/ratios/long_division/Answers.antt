-- `decimals::ratios::long_division` meets its contract. Assumes nothing.
use native.Mathlib.Omega.{arith}
use Rattle.decimals.specs.Wide.{value}
use Rattle.decimals.proofs.Quotients.{first, next, last, bound}
use Rattle.decimals.proofs.ratios.long_division.Goals as goal

pub loop-init : goal.loop-init
loop-init c = (c.requires.0, first (value c.args.n) (value c.args.m) c.requires.2)

pub times-requires : goal.times-requires
times-requires c = omega (arith, c.loop.invariant.0, c.loop.invariant.1.small, c.requires)

pub digit_of-next-requires : goal.digit_of-next-requires
digit_of-next-requires c = omega (arith, c.times.ensures, c.loop.invariant.1.small, c.requires)

pub overflow_mul-q : goal.overflow_mul-q
overflow_mul-q c = omega (arith, bound c.loop.invariant.1)

pub overflow_add-q : goal.overflow_add-q
overflow_add-q c = omega (arith, bound c.loop.invariant.1, c.digit_of-next.ensures.1)

pub loop-preserved : goal.loop-preserved
loop-preserved c = (c.digit_of-next.ensures.0, next c.loop.invariant.1 c.loop-test.true (value c.times.result) (value c.digit_of-next.result.rest) c.digit_of-next.result.digit c.times.ensures.1 c.digit_of-next.ensures.1 c.digit_of-next.ensures.2 c.digit_of-next.ensures.3)

pub returns : goal.returns
returns c = (c.loop.invariant.0, last c.loop.invariant.1 c.loop-test.false)
