-- `determined::undetermined` meets its contract: its columns are the definition's. Assumes nothing.
use borrow.Author.Rules.{rules}
use native.Mathlib.Omega.{arith}
use Rattle.nodes.specs.Nodes.{fixed_node, in_service}
use Rattle.determined.specs.Determined.{joins_at}
use Rattle.determined.proofs.Columns.{ends_fit, undetermined_of_lem}
use Rattle.determined.proofs.undetermined.Goals as goal

pub mark_held-requires-clause-laid : goal.mark_held-requires-clause-laid
mark_held-requires-clause-laid c = c.requires.laid

pub mark_held-requires-clause-ends_in : goal.mark_held-requires-clause-ends_in
mark_held-requires-clause-ends_in c = c.requires.ends_in

pub mark_held-requires-clause-links_in_bounds : goal.mark_held-requires-clause-links_in_bounds
mark_held-requires-clause-links_in_bounds c = omega (arith, c.requires.nodes_bound, c.requires.links_in_bounds, c.fill_with-2.auto.column)

pub spread-requires-clause-links_in_bounds : goal.spread-requires-clause-links_in_bounds
spread-requires-clause-links_in_bounds c = omega (arith, c.requires.nodes_bound, c.requires.links_in_bounds, c.put_ends.auto.starts, c.put_ends.auto.ends, c.fill_with.auto.column, c.fill_with-2.auto.column, c.mark_held.auto.held)

pub spread-requires-clause-ends_below : goal.spread-requires-clause-ends_below
spread-requires-clause-ends_below c = ends_fit _ _ c.requires.ends_in c.requires.nodes_bound.1 _ _ c.put_ends.ensures.starts c.put_ends.ensures.ends

pub first_unjoined-requires : goal.first_unjoined-requires
first_unjoined-requires c = omega (arith, c.requires.nodes_bound, c.requires.links_in_bounds, c.fill_with-3.auto.column, c.fill_with-2.auto.column, c.mark_held.auto.held, c.spread.auto.reached)

pub returns : goal.returns
returns c =
    undetermined_of_lem _ _ _ _ _ _ _ _ _ _ _ _ c.put_ends.ensures.starts c.put_ends.ensures.ends
    (c.fill_with.ensures (joins_at c.args.sheet.now c.args.l c.args.flows.now c.args.statuses.now) (λ j v h p. search rules))
    (c.fill_with-2.ensures (fixed_node c.args.sheet.now c.args.l) (λ i v h p. search rules)) c.mark_held.ensures
    (c.fill_with-3.ensures (in_service c.args.sheet.now c.args.l) (λ i v h p. search rules)) c.spread.ensures c.first_unjoined.ensures
