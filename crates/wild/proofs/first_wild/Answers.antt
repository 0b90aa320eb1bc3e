-- `wild::first_wild` meets its contract: the closure tests what the definition does. Assumes nothing.
use Rattle.std.proofs.Common.{rules, get_or, ◌∙◌}
use Rattle.std.specs.Float.{nan}
use Rattle.float.specs.Order.{wild_of}
use Rattle.wild.proofs.Wilds.{first_of_wild}
use Rattle.wild.proofs.first_wild.Goals as goal

pub returns : goal.returns
returns c = c.first_where.ensures (λ i. wild_of (get_or c.args.x.now i nan)) (λ i b h p. search rules) ∙ first_of_wild c.args.x.now c.args.count
