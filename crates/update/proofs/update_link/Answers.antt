-- `update::update_link` meets its contract. Assumes nothing.
use Rattle.links.proofs.Reading.{start_below, end_below}
use Rattle.update.proofs.Made.{link_in, link_out}
use Rattle.update.specs.Update.{basis, stepping}
use borrow.Author.Rules.{rules}
use native.Mathlib.Omega.{arith}
use Rattle.update.proofs.update_link.Goals as goal

pub is_enabled-requires-clause-laid : goal.is_enabled-requires-clause-laid
is_enabled-requires-clause-laid c = c.requires.laid

pub is_enabled-requires-clause-i_lt_nodes : goal.is_enabled-requires-clause-i_lt_nodes
is_enabled-requires-clause-i_lt_nodes c = start_below _ _ _ _ c.requires.ends_in c.requires.nodes_in_bounds.1 c.link-k.ensures

pub is_enabled-requires-2-clause-laid : goal.is_enabled-requires-2-clause-laid
is_enabled-requires-2-clause-laid c = c.requires.laid

pub is_enabled-requires-2-clause-i_lt_nodes : goal.is_enabled-requires-2-clause-i_lt_nodes
is_enabled-requires-2-clause-i_lt_nodes c = end_below _ _ _ _ c.requires.ends_in c.requires.nodes_in_bounds.1 c.link-k.ensures

pub move_link-requires-clause-laid : goal.move_link-requires-clause-laid
move_link-requires-clause-laid c =
    let su = start_below _ _ _ _ c.requires.ends_in c.requires.nodes_in_bounds.1 c.link-k.ensures in
    let sv = end_below _ _ _ _ c.requires.ends_in c.requires.nodes_in_bounds.1 c.link-k.ensures in
    c.requires.laid

pub move_link-requires-clause-nodes_in_bounds : goal.move_link-requires-clause-nodes_in_bounds
move_link-requires-clause-nodes_in_bounds c =
    let su = start_below _ _ _ _ c.requires.ends_in c.requires.nodes_in_bounds.1 c.link-k.ensures in
    let sv = end_below _ _ _ _ c.requires.ends_in c.requires.nodes_in_bounds.1 c.link-k.ensures in
    (c.requires.nodes_in_bounds.0, (su, sv))

pub move_link-requires-clause-j_in_bounds : goal.move_link-requires-clause-j_in_bounds
move_link-requires-clause-j_in_bounds c =
    let su = start_below _ _ _ _ c.requires.ends_in c.requires.nodes_in_bounds.1 c.link-k.ensures in
    let sv = end_below _ _ _ _ c.requires.ends_in c.requires.nodes_in_bounds.1 c.link-k.ensures in
    c.requires.j_in_bounds

pub returns-then-is_enabled : goal.returns-then-is_enabled
returns-then-is_enabled c = link_in c.args.sheet.now c.args.l (basis c.args.heads.now c.args.g.now c.args.y.now c.args.factor) c.args.j _ c.link-k.ensures _ _ c.is_enabled.ensures c.is_enabled-2.ensures (stepping c.args.flows.now c.args.statuses.now c.args.u) _ c.if-is_enabled.true c.move_link.ensures

pub returns : goal.returns
returns c = link_out c.args.sheet.now c.args.l (basis c.args.heads.now c.args.g.now c.args.y.now c.args.factor) c.args.j _ c.link-k.ensures _ _ c.is_enabled.ensures c.is_enabled-2.ensures (stepping c.args.flows.now c.args.statuses.now c.args.u) c.if-is_enabled.false
