-- `held_start::start` meets its contract, for any sheet and any state. Assumes nothing.
use mathlib.Core.Path.{◌≡◌, sym, ◌∙◌}
use borrow.Author.Rules.{rules}
use Rattle.held.specs.Held.{held}
use Rattle.solver.proofs.Laws.{network_of}
use Rattle.held_start.proofs.Laws.{start_refused, start_good}
use Rattle.held_start.proofs.start.Goals as goal

pub start_columns-requires-clause-laid : goal.start_columns-requires-clause-laid
start_columns-requires-clause-laid c =
    let net = network_of _ _ (sym c.read.ensures ∙ c.in-Ok.is) in
    net.laid

pub start_columns-requires-clause-nodes_bound : goal.start_columns-requires-clause-nodes_bound
start_columns-requires-clause-nodes_bound c =
    let net = network_of _ _ (sym c.read.ensures ∙ c.in-Ok.is) in
    (net.nodes, net.links)

pub returns-in-Err : goal.returns-in-Err
returns-in-Err c = start_refused _ _ _ c.read.ensures _ _ _ _ c.in-Err.is c.refusal_number.ensures c.refusal_place.ensures c.refused.ensures

pub returns-in-Ok : goal.returns-in-Ok
returns-in-Ok c =
    start_good c.args.sheet.now (held c.args.h.now c.args.d.now c.args.f.now c.args.q.now c.args.c.now c.args.z.now c.args.sums.now c.args.counts.now) _ c.read.ensures
    _ _ _ _ _ _ _ _ _ _ _ c.in-Ok.is c.start_columns.ensures c.damping_start.ensures c.more.ensures c.keep.ensures.sums c.keep.ensures.counts c.keep.ensures.told
