-- `listing_text::result_lines` meets its contract: one text behind the other. Assumes nothing.
use native.Mathlib.Omega.{arith}
use borrow.Author.Rules.{rules}
use Rattle.words.proofs.Laws.{then}
use Rattle.results.proofs.LineLaws.{nodes_length, links_length, balance_length}
use Rattle.listing_text.specs.Listing.{result_lines}
use Rattle.listing_text.proofs.result_lines.Goals as goal

pub link_lines-p-requires : goal.link_lines-p-requires
link_lines-p-requires c = omega (arith, c.node_lines-p.ensures.end, nodes_length c.args.heads.now c.args.demands.now c.args.l.nodes)

pub balance_line-requires : goal.balance_line-requires
balance_line-requires c = omega (arith, c.requires, c.node_lines-p.ensures.end, c.node_lines-p.auto.out, c.link_lines-p.auto.out, c.link_lines-p.ensures.end, nodes_length c.args.heads.now c.args.demands.now c.args.l.nodes, links_length c.args.flows.now c.args.statuses.now c.args.l.links)

pub returns-clause-put : goal.returns-clause-put
unfolding result_lines
returns-clause-put c = then (then (record { bytes = c.node_lines-p.ensures.text; next = c.node_lines-p.ensures.end }) (record { bytes = c.link_lines-p.ensures.text; next = c.link_lines-p.ensures.end })) (record { bytes = c.balance_line.ensures.text; next = c.balance_line.ensures.end })

pub returns-clause-upper_bound : goal.returns-clause-upper_bound
unfolding result_lines
returns-clause-upper_bound c = omega (arith, c.requires, c.node_lines-p.ensures.end, c.link_lines-p.ensures.end, c.balance_line.ensures.end, nodes_length c.args.heads.now c.args.demands.now c.args.l.nodes, links_length c.args.flows.now c.args.statuses.now c.args.l.links, balance_length c.args.a.demand c.args.a.supply c.args.a.error)
