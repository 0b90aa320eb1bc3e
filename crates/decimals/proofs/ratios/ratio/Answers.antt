-- `decimals::ratios::ratio` meets its contract. Assumes nothing.
use native.Mathlib.Omega.{arith}
use Rattle.decimals.specs.Wide.{value}
use Rattle.decimals.proofs.Exponents.{ratio_is}
use Rattle.decimals.proofs.ratios.ratio.Goals as goal

pub returns : goal.returns
returns c =
    ratio_is (value c.args.num) (value c.args.den) c.args.base (value c.raise-n.result.wide) (value c.raise-m.result.wide) c.raise-n.result.by c.raise-m.result.by c.quotient.result
    c.raise-n.ensures.1 c.raise-m.ensures.1 c.raise-m.ensures.2 (omega arith) (omega arith) c.quotient.ensures.0
