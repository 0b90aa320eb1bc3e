-- `reach::first_unjoined` meets its contract: the closure tests what the definition does. Assumes nothing.
use Rattle.std.proofs.Common.{rules}
use Rattle.reach.specs.Reach.{lacks}
use Rattle.reach.proofs.first_unjoined.Goals as goal

pub returns : goal.returns
unfolding lacks
returns c = c.first_where.ensures (lacks c.args.needs.now c.args.reached.now) (λ i b h p. search rules)
