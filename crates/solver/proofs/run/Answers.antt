-- `solver::run` meets its contract: the unknowns numbered, the links listed at their nodes, and the run. Assumes nothing.
use native.Mathlib.Omega.{arith}
use mathlib.Core.Path.{◌≡◌, sym, ◌∙◌, subst}
use mathlib.Core.List.{List}
use Prim.Native.Nat.{ℕ}
use borrow.Author.Rules.{rules}
use lib.Seq.{length-take-le}
use Rattle.numbering.proofs.Rows.{rows_right}
use Rattle.numbering.specs.Numbering.{RowsRight}
use Rattle.state.specs.State.{state}
use Rattle.trial.specs.Trial.{repair_of}
use Rattle.solver.proofs.Laws.{network_of, joined_of_lem, few_trials, emptied_part, run_of_lem}
use Rattle.solver.proofs.run.Goals as goal

pub number_unknowns-requires-clause-laid : goal.number_unknowns-requires-clause-laid
number_unknowns-requires-clause-laid c =
    let net = network_of _ _ c.requires.sheet_value in
    net.laid

pub number_unknowns-requires-clause-nodes_in_bounds : goal.number_unknowns-requires-clause-nodes_in_bounds
number_unknowns-requires-clause-nodes_in_bounds c =
    let net = network_of _ _ c.requires.sheet_value in
    omega (arith, net.nodes)

pub list_at_nodes-requires-clause-laid : goal.list_at_nodes-requires-clause-laid
list_at_nodes-requires-clause-laid c =
    let net = network_of _ _ c.requires.sheet_value in
    net.laid

pub list_at_nodes-requires-clause-joined : goal.list_at_nodes-requires-clause-joined
list_at_nodes-requires-clause-joined c =
    let net = network_of _ _ c.requires.sheet_value in
    joined_of_lem _ _ c.requires.sheet_value

pub list_at_nodes-requires-clause-links_bound : goal.list_at_nodes-requires-clause-links_bound
list_at_nodes-requires-clause-links_bound c =
    let net = network_of _ _ c.requires.sheet_value in
    omega (arith, net.nodes, net.links)

pub slice_bounds-run_trials-end-4 : goal.slice_bounds-run_trials-end-4
slice_bounds-run_trials-end-4 c = c.requires.trials_in_bounds.1

pub slice_bounds-run_trials-end-5 : goal.slice_bounds-run_trials-end-5
slice_bounds-run_trials-end-5 c = sym (length-take-le 4096 c.args.scratch.now c.requires.trials_in_bounds.1)

pub run_trials-requires-clause-network : goal.run_trials-requires-clause-network
run_trials-requires-clause-network c =
    let net = network_of _ _ c.requires.sheet_value in
    let few = few_trials _ _ c.requires.sheet_value in
    net

pub run_trials-requires-clause-links_at : goal.run_trials-requires-clause-links_at
run_trials-requires-clause-links_at c =
    let net = network_of _ _ c.requires.sheet_value in
    let few = few_trials _ _ c.requires.sheet_value in
    c.list_at_nodes.ensures.right

pub run_trials-requires-clause-nodes_in_bounds : goal.run_trials-requires-clause-nodes_in_bounds
run_trials-requires-clause-nodes_in_bounds c =
    let net = network_of _ _ c.requires.sheet_value in
    let few = few_trials _ _ c.requires.sheet_value in (
      omega (arith, net.nodes, c.number_unknowns.auto.unknowns),
      subst (λ (x : List ℕ). RowsRight c.args.l c.args.sheet.now x) (sym c.number_unknowns.ensures) (rows_right c.args.sheet.now c.args.l _ (omega (arith, net.nodes)) (omega (arith, net.nodes))),
    )

pub run_trials-requires-clause-room : goal.run_trials-requires-clause-room
run_trials-requires-clause-room c =
    let net = network_of _ _ c.requires.sheet_value in
    let few = few_trials _ _ c.requires.sheet_value in
    c.requires.room

pub run_trials-requires-clause-trials_bound : goal.run_trials-requires-clause-trials_bound
run_trials-requires-clause-trials_bound c =
    let net = network_of _ _ c.requires.sheet_value in
    let few = few_trials _ _ c.requires.sheet_value in
    (omega (arith, few, c.requires.trials_value), (c.requires.trials_in_bounds.0, length-take-le 4096 c.args.scratch.now c.requires.trials_in_bounds.1))

pub returns-clause-state : goal.returns-clause-state
returns-clause-state c = run_of_lem repair_of c.args.sheet.now c.args.l c.args.trials c.args.entries.now (state c.args.h.now c.args.d.now c.args.f.now c.args.q.now c.args.c.now c.args.z.now) _ c.requires.trials_value c.requires.z_value c.run_trials.ensures.state

pub returns-clause-emptied : goal.returns-clause-emptied
returns-clause-emptied c = emptied_part _ c.args.scratch.now c.run_trials.ensures.cleared
