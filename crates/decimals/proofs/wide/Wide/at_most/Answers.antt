-- `decimals::wide::Wide::at_most` meets its contract. Assumes nothing.
use native.Mathlib.Omega.{arith}
use Rattle.decimals.specs.Wide.{value}
use Rattle.decimals.proofs.Wides.{as_leb, as_ltb}
use Rattle.decimals.proofs.wide.Wide.at_most.Goals as goal

pub returns-then-self-other : goal.returns-then-self-other
returns-then-self-other c = as_leb c.args.self.low c.args.other.low (value c.args.self) (value c.args.other) (λ h. omega arith) (λ h. omega arith)

pub returns-else-self-other : goal.returns-else-self-other
returns-else-self-other c = as_ltb c.args.self.high c.args.other.high (value c.args.self) (value c.args.other) (λ h. omega arith) (λ h. omega arith)
