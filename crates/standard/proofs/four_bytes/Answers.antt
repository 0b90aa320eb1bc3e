-- `standard::four_bytes` meets its contract. Assumes nothing.
use native.Mathlib.Omega.{arith}
use Rattle.patterns.proofs.ByteLaws.{join}
use Rattle.standard.proofs.four_bytes.Goals as goal

pub returns : goal.returns
returns c = (omega (arith, join 2 2 c.args.s.now c.args.at), omega arith)
