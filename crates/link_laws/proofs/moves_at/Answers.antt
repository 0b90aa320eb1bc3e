-- `link_laws::moves_at` meets its contract. Assumes nothing.
use Rattle.links.proofs.Reading.{start_below, end_below}
use Rattle.link_rows.specs.LinkRows.{view}
use Rattle.link_laws.proofs.Changes.{moves-in, moves_out}
use borrow.Author.Rules.{rules}
use native.Mathlib.Omega.{arith}
use Prim.Native.Nat.{◌<◌}
use Rattle.link_laws.proofs.moves_at.Goals as goal

pub link-k-requires-clause-laid : goal.link-k-requires-clause-laid
link-k-requires-clause-laid c = c.requires.laid

pub link-k-requires-clause-j_lt_links : goal.link-k-requires-clause-j_lt_links
link-k-requires-clause-j_lt_links c = c.requires.j_lt_links

pub is_enabled-requires-clause-laid : goal.is_enabled-requires-clause-laid
is_enabled-requires-clause-laid c =
    let below : (c.link-k.result.start < c.args.l.nodes) × (c.link-k.result.end < c.args.l.nodes) = (start_below _ _ _ _ c.requires.ends_in c.requires.j_lt_links c.link-k.ensures, end_below _ _ _ _ c.requires.ends_in c.requires.j_lt_links c.link-k.ensures) in
    c.requires.laid

pub is_enabled-requires-clause-i_lt_nodes : goal.is_enabled-requires-clause-i_lt_nodes
is_enabled-requires-clause-i_lt_nodes c =
    let below : (c.link-k.result.start < c.args.l.nodes) × (c.link-k.result.end < c.args.l.nodes) = (start_below _ _ _ _ c.requires.ends_in c.requires.j_lt_links c.link-k.ensures, end_below _ _ _ _ c.requires.ends_in c.requires.j_lt_links c.link-k.ensures) in
    below.0

pub is_enabled-requires-2-clause-laid : goal.is_enabled-requires-2-clause-laid
is_enabled-requires-2-clause-laid c =
    let below : (c.link-k.result.start < c.args.l.nodes) × (c.link-k.result.end < c.args.l.nodes) = (start_below _ _ _ _ c.requires.ends_in c.requires.j_lt_links c.link-k.ensures, end_below _ _ _ _ c.requires.ends_in c.requires.j_lt_links c.link-k.ensures) in
    c.requires.laid

pub is_enabled-requires-2-clause-i_lt_nodes : goal.is_enabled-requires-2-clause-i_lt_nodes
is_enabled-requires-2-clause-i_lt_nodes c =
    let below : (c.link-k.result.start < c.args.l.nodes) × (c.link-k.result.end < c.args.l.nodes) = (start_below _ _ _ _ c.requires.ends_in c.requires.j_lt_links c.link-k.ensures, end_below _ _ _ _ c.requires.ends_in c.requires.j_lt_links c.link-k.ensures) in
    below.1

pub coefficients_at-c-requires-clause-laid : goal.coefficients_at-c-requires-clause-laid
coefficients_at-c-requires-clause-laid c =
    let below : (c.link-k.result.start < c.args.l.nodes) × (c.link-k.result.end < c.args.l.nodes) = (start_below _ _ _ _ c.requires.ends_in c.requires.j_lt_links c.link-k.ensures, end_below _ _ _ _ c.requires.ends_in c.requires.j_lt_links c.link-k.ensures) in
    c.requires.laid

pub coefficients_at-c-requires-clause-nodes_in_bounds : goal.coefficients_at-c-requires-clause-nodes_in_bounds
coefficients_at-c-requires-clause-nodes_in_bounds c =
    let below : (c.link-k.result.start < c.args.l.nodes) × (c.link-k.result.end < c.args.l.nodes) = (start_below _ _ _ _ c.requires.ends_in c.requires.j_lt_links c.link-k.ensures, end_below _ _ _ _ c.requires.ends_in c.requires.j_lt_links c.link-k.ensures) in
    (c.requires.nodes_in_bounds.1.0, (omega (arith, c.requires.nodes_in_bounds.1.1.0, c.requires.j_lt_links), omega (arith, c.requires.nodes_in_bounds.1.1.1, c.requires.j_lt_links)))

pub coefficients_at-c-requires-clause-start_lt_nodes : goal.coefficients_at-c-requires-clause-start_lt_nodes
coefficients_at-c-requires-clause-start_lt_nodes c =
    let below : (c.link-k.result.start < c.args.l.nodes) × (c.link-k.result.end < c.args.l.nodes) = (start_below _ _ _ _ c.requires.ends_in c.requires.j_lt_links c.link-k.ensures, end_below _ _ _ _ c.requires.ends_in c.requires.j_lt_links c.link-k.ensures) in
    below

pub change_by-m-requires : goal.change_by-m-requires
change_by-m-requires c =
    let below : (c.link-k.result.start < c.args.l.nodes) × (c.link-k.result.end < c.args.l.nodes) = (start_below _ _ _ _ c.requires.ends_in c.requires.j_lt_links c.link-k.ensures, end_below _ _ _ _ c.requires.ends_in c.requires.j_lt_links c.link-k.ensures) in
    (omega (arith, c.requires.nodes_in_bounds.0, below.0), omega (arith, c.requires.nodes_in_bounds.0, below.1))

pub returns-then-is_enabled : goal.returns-then-is_enabled
returns-then-is_enabled c = moves-in c.args.sheet.now c.args.l (view c.args.heads.now c.args.flows.now c.args.statuses.now c.args.excess.now) c.args.limits c.args.j _ c.link-k.ensures _ _ c.is_enabled.ensures c.is_enabled-2.ensures _ _ _ c.if-is_enabled.true c.coefficients_at-c.ensures c.change_by-m.ensures c.is_slight.ensures

pub returns : goal.returns
returns c = moves_out c.args.sheet.now c.args.l (view c.args.heads.now c.args.flows.now c.args.statuses.now c.args.excess.now) c.args.limits c.args.j _ c.link-k.ensures _ _ c.is_enabled.ensures c.is_enabled-2.ensures c.if-is_enabled.false
