-- `repairs_shown::repair_shown` meets its contract: the closure tests what the definition does. Assumes nothing.
use Rattle.std.proofs.Common.{rules}
use Rattle.repairs_shown.specs.Shown.{shows, repair_shown}
use Rattle.repairs_shown.proofs.repair_shown.Goals as goal

pub returns : goal.returns
unfolding repair_shown
returns c = c.first_where.ensures (shows c.args.entries.now) (λ i b h p. search rules)
