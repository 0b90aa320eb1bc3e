-- `excess::imbalance` meets its contract. Assumes nothing.
use Rattle.excess.proofs.Turns.{imbalance_of_lem}
use native.Mathlib.Omega.{arith}
use borrow.Author.Rules.{rules}
use Rattle.excess.proofs.imbalance.Goals as goal

pub move_flows-requires-clause-laid : goal.move_flows-requires-clause-laid
move_flows-requires-clause-laid c = c.requires.laid

pub move_flows-requires-clause-ends_in : goal.move_flows-requires-clause-ends_in
move_flows-requires-clause-ends_in c = c.requires.ends_in

pub move_flows-requires-clause-nodes_in_bounds : goal.move_flows-requires-clause-nodes_in_bounds
move_flows-requires-clause-nodes_in_bounds c = omega (arith, c.requires.nodes_in_bounds, c.start_at_demands.auto.excess)

pub returns : goal.returns
returns c = imbalance_of_lem _ _ _ _ _ _ _ c.start_at_demands.ensures c.move_flows.ensures
