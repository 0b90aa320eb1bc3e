-- `step::step` meets its contract: the calls in their order, put together by one law. Assumes nothing.
use native.Mathlib.Omega.{arith}
use mathlib.Core.Path.{sym, ◌∙◌}
use borrow.Author.Rules.{rules}
use Rattle.layout.proofs.Laws.{options_within}
use Rattle.step.proofs.Laws.{step_of_lem, entry_wild, entry_judged}
use Rattle.step.proofs.step.Goals as goal

pub put_heads-requires-clause-nodes_bound : goal.put_heads-requires-clause-nodes_bound
put_heads-requires-clause-nodes_bound c = omega (arith, c.requires.network.nodes, c.requires.nodes_in_bounds.0, c.requires.links_in_bounds, c.requires.room.heads)

pub put_heads-requires-clause-rows_right : goal.put_heads-requires-clause-rows_right
put_heads-requires-clause-rows_right c = c.requires.nodes_in_bounds.1

pub update_links-updated-requires-clause-laid : goal.update_links-updated-requires-clause-laid
update_links-updated-requires-clause-laid c = c.requires.network.laid

pub update_links-updated-requires-clause-ends_in : goal.update_links-updated-requires-clause-ends_in
update_links-updated-requires-clause-ends_in c = c.requires.network.ends

pub update_links-updated-requires-clause-nodes_in_bounds : goal.update_links-updated-requires-clause-nodes_in_bounds
update_links-updated-requires-clause-nodes_in_bounds c = omega (arith, c.requires.room.heads, c.put_heads.auto.heads, c.requires.links_in_bounds, c.requires.room.flows, c.requires.room.statuses)

pub tank_links-requires-clause-laid : goal.tank_links-requires-clause-laid
tank_links-requires-clause-laid c = c.requires.network.laid

pub tank_links-requires-clause-links_at : goal.tank_links-requires-clause-links_at
tank_links-requires-clause-links_at c = c.requires.links_at

pub tank_links-requires-clause-nodes_in_bounds : goal.tank_links-requires-clause-nodes_in_bounds
tank_links-requires-clause-nodes_in_bounds c = omega (arith, c.requires.room, c.put_heads.auto.heads, c.update_links-updated.auto)

pub update_drawn-stats-requires-clause-laid : goal.update_drawn-stats-requires-clause-laid
update_drawn-stats-requires-clause-laid c = c.requires.network.laid

pub update_drawn-stats-requires-clause-nodes_in_bounds : goal.update_drawn-stats-requires-clause-nodes_in_bounds
update_drawn-stats-requires-clause-nodes_in_bounds c = (omega (arith, c.requires.room.heads, c.put_heads.auto.heads), (omega (arith, c.requires.room.demands, c.tank_links.auto), c.requires.room.drawn))

pub wild_place-requires-clause-nodes_bound : goal.wild_place-requires-clause-nodes_bound
wild_place-requires-clause-nodes_bound c = (c.requires.network.nodes, c.requires.network.links)

pub wild_place-requires-clause-nodes_in_bounds : goal.wild_place-requires-clause-nodes_in_bounds
wild_place-requires-clause-nodes_in_bounds c = (omega (arith, c.requires.room.heads, c.put_heads.auto.heads), (omega (arith, c.requires.room.flows, c.update_links-updated.auto), omega (arith, c.requires.room.drawn, c.update_drawn-stats.auto.drawn)))

pub options_of-requires : goal.options_of-requires
options_of-requires c = options_within _ _ c.requires.network.laid

pub shape_of-heads-in-Some : goal.shape_of-heads-in-Some
shape_of-heads-in-Some c = c.put_heads.auto.heads

pub returns-in-Some : goal.returns-in-Some
returns-in-Some c = step_of_lem _ _ _ _ _ _ _ _ _ _ _ _ _ _ _ _ c.put_heads.ensures c.update_links-updated.ensures c.tank_links.ensures c.update_drawn-stats.ensures (entry_wild _ _ _ _ _ _ (sym c.wild_place.ensures ∙ c.in-Some.is))

pub shape_of-heads-in-None : goal.shape_of-heads-in-None
shape_of-heads-in-None c = c.put_heads.auto.heads

pub shape_of-flows-in-None : goal.shape_of-flows-in-None
shape_of-flows-in-None c = c.update_links-updated.auto.flows

pub shape_of-statuses-in-None : goal.shape_of-statuses-in-None
shape_of-statuses-in-None c = c.tank_links.auto.statuses ∙ c.update_links-updated.auto.statuses

pub returns-in-None : goal.returns-in-None
returns-in-None c = step_of_lem _ _ _ _ _ _ _ _ _ _ _ _ _ _ _ _ c.put_heads.ensures c.update_links-updated.ensures c.tank_links.ensures c.update_drawn-stats.ensures (entry_judged _ _ _ _ _ _ _ (sym c.wild_place.ensures ∙ c.in-None.is) c.options_of.ensures c.judge.ensures)
