-- `held_heads::unheld` meets its contract: the closure tests what the definition does. Assumes nothing.
use Rattle.std.proofs.Common.{rules}
use Rattle.held_heads.specs.Held.{misses_at, unheld_of}
use Rattle.held_heads.proofs.unheld.Goals as goal

pub returns : goal.returns
unfolding unheld_of
returns c = c.first_where.ensures (misses_at c.args.sheet.now c.args.l c.args.heads.now c.args.statuses.now c.args.head) (λ i b h p. search rules)
