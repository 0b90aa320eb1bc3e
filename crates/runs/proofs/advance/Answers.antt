-- `runs::advance` meets its contract: the trial, its entry put and counted, and what follows. Assumes nothing.
use borrow.Author.Rules.{rules}
use native.Mathlib.Omega.{arith}
use Prim.Native.Nat.{◌*◌, ◌≤◌}
use mathlib.Core.Path.{◌≡◌, ap, ◌∙◌}
use lib.ListN.{length}
use Rattle.columns.specs.Columns.{cleared}
use Rattle.columns.proofs.Laws.{zeros_long}
use Rattle.numbering.proofs.Numbers.{at_most}
use Rattle.trial.proofs.Laws.{factors_cleared}
use Rattle.state.specs.State.{state}
use Rattle.trial.specs.Trial.{repair_of}
use Rattle.runs.proofs.Laws.{turn_of_lem}
use Rattle.runs.proofs.advance.Goals as goal

pub trial-e-requires-clause-network : goal.trial-e-requires-clause-network
trial-e-requires-clause-network c = c.requires.network

pub trial-e-requires-clause-links_at : goal.trial-e-requires-clause-links_at
trial-e-requires-clause-links_at c = c.requires.links_at

pub trial-e-requires-clause-nodes_in_bounds : goal.trial-e-requires-clause-nodes_in_bounds
trial-e-requires-clause-nodes_in_bounds c = c.requires.nodes_in_bounds

pub trial-e-requires-clause-room : goal.trial-e-requires-clause-room
trial-e-requires-clause-room c = c.requires.room

pub trial-e-requires-clause-scratch_value : goal.trial-e-requires-clause-scratch_value
trial-e-requires-clause-scratch_value c = c.requires.trials_in_bounds.1

pub overflow_mul-l : goal.overflow_mul-l
overflow_mul-l c =
    let few : c.args.l.unknowns ≤ 64 = omega (arith, c.requires.network.nodes, c.requires.network.unknowns, at_most c.args.sheet.now c.args.l c.args.l.nodes) in
    omega (arith, few)

pub clear-requires : goal.clear-requires
clear-requires c =
    let few : c.args.l.unknowns ≤ 64 = omega (arith, c.requires.network.nodes, c.requires.network.unknowns, at_most c.args.sheet.now c.args.l c.args.l.nodes) in
    omega (arith, few, c.trial-e.auto.scratch, ap length c.requires.trials_in_bounds.1, zeros_long 4096)

pub put-requires : goal.put-requires
put-requires c = omega (arith, c.requires.trials_bound, c.requires.trials_in_bounds)

pub count-requires : goal.count-requires
count-requires c = omega (arith, c.requires.trials_bound)

pub returns-clause-turn : goal.returns-clause-turn
returns-clause-turn c = turn_of_lem repair_of c.args.sheet.now c.args.l 0 c.args.d c.args.tally c.args.entries.now
    (state c.args.heads.now c.args.demands.now c.args.drawn.now c.args.flows.now c.args.statuses.now c.args.grounded.now)
    _ _ _ _ _ _ c.trial-e.ensures.state c.marked.ensures c.put.ensures c.go.ensures c.count.ensures

pub returns-clause-cleared : goal.returns-clause-cleared
returns-clause-cleared c = c.clear.ensures ∙ ap (cleared (64 * c.args.l.unknowns)) c.trial-e.ensures.factors ∙ factors_cleared c.args.sheet.now c.args.l _ c.requires.network
