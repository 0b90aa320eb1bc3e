-- `balances::unbalanced` meets its contract: the closure tests what the definition does. Assumes nothing.
use Rattle.std.proofs.Common.{rules}
use Rattle.balances.specs.Balances.{leaks, unbalanced_of}
use Rattle.balances.proofs.unbalanced.Goals as goal

pub returns : goal.returns
unfolding unbalanced_of
returns c = c.first_where.ensures (leaks c.args.sheet.now c.args.l c.args.excess.now c.args.flow) (λ i b h p. search rules)
