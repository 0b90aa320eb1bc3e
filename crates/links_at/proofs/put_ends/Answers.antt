-- `links_at::put_ends` meets its contract: the closures give what the definitions do. Assumes nothing.
use Rattle.std.proofs.Common.{rules}
use Rattle.links.specs.Links.{link_start, link_end}
use Rattle.links_at.proofs.put_ends.Goals as goal

pub returns-clause-starts : goal.returns-clause-starts
returns-clause-starts c = c.fill_with.ensures (link_start c.args.sheet.now c.args.l) (λ j v h p. search rules)

pub returns-clause-ends : goal.returns-clause-ends
returns-clause-ends c = c.fill_with-2.ensures (link_end c.args.sheet.now c.args.l) (λ j v h p. search rules)
