-- `link_laws::unsettled` meets its contract: the closure tests what the definition does. Assumes nothing.
use Rattle.std.proofs.Common.{rules}
use Rattle.link_laws.specs.LinkLaws.{moves, unsettled_of}
use Rattle.link_rows.specs.LinkRows.{view}
use Rattle.link_laws.proofs.unsettled.Goals as goal

pub returns : goal.returns
unfolding unsettled_of
returns c = c.first_where.ensures (moves c.args.sheet.now c.args.l (view c.args.heads.now c.args.flows.now c.args.statuses.now c.args.excess.now) c.args.limits) (λ i b h p. search rules)
