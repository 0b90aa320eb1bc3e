-- `link_rows::add_link` meets its contract. Assumes nothing.
use Rattle.links.proofs.Reading.{start_below, end_below}
use Rattle.link_rows.proofs.Laws.{link_in, link_out}
use Rattle.link_rows.specs.LinkRows.{view}
use borrow.Author.Rules.{rules}
use native.Mathlib.Omega.{arith}
use Prim.Native.Nat.{◌<◌}
use Rattle.link_rows.proofs.add_link.Goals as goal

pub is_enabled-requires-clause-laid : goal.is_enabled-requires-clause-laid
is_enabled-requires-clause-laid c =
    let below : (c.link-k.result.start < c.args.l.nodes) × (c.link-k.result.end < c.args.l.nodes) = (start_below _ _ _ _ c.requires.given.ends c.requires.j_lt_links c.link-k.ensures, end_below _ _ _ _ c.requires.given.ends c.requires.j_lt_links c.link-k.ensures) in
    c.requires.given.laid

pub is_enabled-requires-clause-i_lt_nodes : goal.is_enabled-requires-clause-i_lt_nodes
is_enabled-requires-clause-i_lt_nodes c =
    let below : (c.link-k.result.start < c.args.l.nodes) × (c.link-k.result.end < c.args.l.nodes) = (start_below _ _ _ _ c.requires.given.ends c.requires.j_lt_links c.link-k.ensures, end_below _ _ _ _ c.requires.given.ends c.requires.j_lt_links c.link-k.ensures) in
    below.0

pub is_enabled-requires-2-clause-laid : goal.is_enabled-requires-2-clause-laid
is_enabled-requires-2-clause-laid c =
    let below : (c.link-k.result.start < c.args.l.nodes) × (c.link-k.result.end < c.args.l.nodes) = (start_below _ _ _ _ c.requires.given.ends c.requires.j_lt_links c.link-k.ensures, end_below _ _ _ _ c.requires.given.ends c.requires.j_lt_links c.link-k.ensures) in
    c.requires.given.laid

pub is_enabled-requires-2-clause-i_lt_nodes : goal.is_enabled-requires-2-clause-i_lt_nodes
is_enabled-requires-2-clause-i_lt_nodes c =
    let below : (c.link-k.result.start < c.args.l.nodes) × (c.link-k.result.end < c.args.l.nodes) = (start_below _ _ _ _ c.requires.given.ends c.requires.j_lt_links c.link-k.ensures, end_below _ _ _ _ c.requires.given.ends c.requires.j_lt_links c.link-k.ensures) in
    below.1

pub coefficients_at-c-requires-clause-laid : goal.coefficients_at-c-requires-clause-laid
coefficients_at-c-requires-clause-laid c =
    let below : (c.link-k.result.start < c.args.l.nodes) × (c.link-k.result.end < c.args.l.nodes) = (start_below _ _ _ _ c.requires.given.ends c.requires.j_lt_links c.link-k.ensures, end_below _ _ _ _ c.requires.given.ends c.requires.j_lt_links c.link-k.ensures) in
    c.requires.given.laid

pub coefficients_at-c-requires-clause-nodes_in_bounds : goal.coefficients_at-c-requires-clause-nodes_in_bounds
coefficients_at-c-requires-clause-nodes_in_bounds c =
    let below : (c.link-k.result.start < c.args.l.nodes) × (c.link-k.result.end < c.args.l.nodes) = (start_below _ _ _ _ c.requires.given.ends c.requires.j_lt_links c.link-k.ensures, end_below _ _ _ _ c.requires.given.ends c.requires.j_lt_links c.link-k.ensures) in
    (c.requires.given.excess, (omega (arith, c.requires.given.flows, c.requires.j_lt_links), omega (arith, c.requires.given.statuses, c.requires.j_lt_links)))

pub coefficients_at-c-requires-clause-start_lt_nodes : goal.coefficients_at-c-requires-clause-start_lt_nodes
coefficients_at-c-requires-clause-start_lt_nodes c =
    let below : (c.link-k.result.start < c.args.l.nodes) × (c.link-k.result.end < c.args.l.nodes) = (start_below _ _ _ _ c.requires.given.ends c.requires.j_lt_links c.link-k.ensures, end_below _ _ _ _ c.requires.given.ends c.requires.j_lt_links c.link-k.ensures) in
    below

pub place_link-requires-clause-given : goal.place_link-requires-clause-given
place_link-requires-clause-given c =
    let below : (c.link-k.result.start < c.args.l.nodes) × (c.link-k.result.end < c.args.l.nodes) = (start_below _ _ _ _ c.requires.given.ends c.requires.j_lt_links c.link-k.ensures, end_below _ _ _ _ c.requires.given.ends c.requires.j_lt_links c.link-k.ensures) in
    c.requires.given

pub place_link-requires-clause-sized : goal.place_link-requires-clause-sized
place_link-requires-clause-sized c =
    let below : (c.link-k.result.start < c.args.l.nodes) × (c.link-k.result.end < c.args.l.nodes) = (start_below _ _ _ _ c.requires.given.ends c.requires.j_lt_links c.link-k.ensures, end_below _ _ _ _ c.requires.given.ends c.requires.j_lt_links c.link-k.ensures) in
    c.requires.sized

pub place_link-requires-clause-j_lt_links : goal.place_link-requires-clause-j_lt_links
place_link-requires-clause-j_lt_links c =
    let below : (c.link-k.result.start < c.args.l.nodes) × (c.link-k.result.end < c.args.l.nodes) = (start_below _ _ _ _ c.requires.given.ends c.requires.j_lt_links c.link-k.ensures, end_below _ _ _ _ c.requires.given.ends c.requires.j_lt_links c.link-k.ensures) in
    (c.requires.j_lt_links, below)

pub returns-then-is_enabled : goal.returns-then-is_enabled
returns-then-is_enabled c = link_in c.args.sheet.now c.args.l (view c.args.heads.now c.args.flows.now c.args.statuses.now c.args.excess.now) c.args.j _ c.link-k.ensures _ _ c.is_enabled.ensures c.is_enabled-2.ensures _ _ _ c.if-is_enabled.true c.coefficients_at-c.ensures c.place_link.ensures

pub returns-else-is_enabled : goal.returns-else-is_enabled
returns-else-is_enabled c = link_out c.args.sheet.now c.args.l (view c.args.heads.now c.args.flows.now c.args.statuses.now c.args.excess.now) c.args.j _ c.link-k.ensures _ _ c.is_enabled.ensures c.is_enabled-2.ensures _ c.if-is_enabled.false
