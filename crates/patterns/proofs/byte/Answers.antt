-- `patterns::byte` meets its contract. Assumes nothing.
use native.Mathlib.Omega.{arith}
use mathlib.Core.Path.{sym}
use borrow.Author.Rules.{rules}
use Rattle.patterns.proofs.ByteLaws.{single}
use Rattle.patterns.proofs.byte.Goals as goal

pub overflow_cast-result : goal.overflow_cast-result
overflow_cast-result c = omega (arith, c.shared_slice_known-1.given c.args.at)

pub returns : goal.returns
returns c = (sym (single c.args.s.now c.args.at), omega (arith, c.shared_slice_known-1.given c.args.at))
