-- `decimals::ratios::divide` meets its contract. Assumes nothing.
use native.Mathlib.Omega.{arith}
use Rattle.decimals.specs.Wide.{value}
use Rattle.decimals.proofs.Wides.{one_digit}
use Rattle.decimals.proofs.Quotients.{renamed}
use Rattle.decimals.proofs.ratios.divide.Goals as goal

pub returns-then-m-lt137438953472 : goal.returns-then-m-lt137438953472
returns-then-m-lt137438953472 c = (c.short_division.ensures.0, renamed c.args.n.low c.args.m.low (value c.args.n) (value c.args.m) (value c.short_division.result.rest) c.short_division.result.q (one_digit c.args.n.high c.args.n.low c.args.m.high c.args.m.low c.requires.2 c.if-m-eq0.true c.if-m-lt137438953472.true) (omega (arith, c.if-m-eq0.true)) c.short_division.ensures.1)
