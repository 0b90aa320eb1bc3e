-- `decimals::ratios::raise` meets its contract. Assumes nothing.
use native.Mathlib.Omega.{arith}
use lib.Pow.{pow_pos}
use Rattle.decimals.specs.Wide.{value}
use Rattle.decimals.proofs.Wides.{yes, no, start, more}
use Rattle.decimals.proofs.ratios.raise.Goals as goal

pub loop-b-init : goal.loop-b-init
loop-b-init c = (omega arith, start (value c.args.a) (value c.args.b) c.requires.2)

pub times-w-requires : goal.times-w-requires
times-w-requires c = omega (arith, yes (value c.loop-b.w) (value c.args.b) c.at_most.ensures c.loop-b-test.true)

pub overflow_add-by : goal.overflow_add-by
overflow_add-by c = omega (arith, c.loop-b.invariant.1.count)

pub loop-b-smaller : goal.loop-b-smaller
loop-b-smaller c = omega (arith, c.times-w.ensures.1, c.loop-b.invariant.1.least, pow_pos c.loop-b.by, yes (value c.loop-b.w) (value c.args.b) c.at_most.ensures c.loop-b-test.true)

pub loop-b-preserved : goal.loop-b-preserved
loop-b-preserved c = (c.times-w.ensures.0, more c.loop-b.invariant.1 (yes (value c.loop-b.w) (value c.args.b) c.at_most.ensures c.loop-b-test.true) c.requires.3 (value c.times-w.result) c.times-w.ensures.1)

pub returns : goal.returns
returns c = (c.loop-b.invariant.0, c.loop-b.invariant.1.is, no (value c.loop-b.w) (value c.args.b) c.at_most.ensures c.loop-b-test.false, c.loop-b.invariant.1.most, omega (arith, c.loop-b.invariant.1.count))
