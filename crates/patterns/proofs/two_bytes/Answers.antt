-- `patterns::two_bytes` meets its contract. Assumes nothing.
use native.Mathlib.Omega.{arith}
use borrow.Author.Rules.{rules}
use Rattle.patterns.proofs.ByteLaws.{join}
use Rattle.patterns.proofs.two_bytes.Goals as goal

pub returns : goal.returns
returns c = (omega (arith, join 1 1 c.args.s.now c.args.at), omega arith)
