-- `solver::solved` meets its contract: the columns as the sheet gives them, the run, and its end told. Assumes nothing.
use native.Mathlib.Omega.{arith}
use mathlib.Core.Path.{◌≡◌, ap, ◌∙◌}
use mathlib.Core.List.{List}
use borrow.Author.Rules.{rules}
use mathlib.Core.Bool.{false}
use lib.ListN.{replicate}
use lib.Ieee.{Float}
use Rattle.state.specs.State.{State, state}
use Rattle.trial.specs.Trial.{repair_of}
use Rattle.answers.specs.Answers.{Solved, lent}
use Rattle.starts.proofs.Laws.{Full, full, start_full}
use Rattle.solver.proofs.Laws.{network_of, solved_of}
use Rattle.solver.proofs.solved.Goals as goal

pub start_columns-requires-clause-laid : goal.start_columns-requires-clause-laid
start_columns-requires-clause-laid c =
    let net = network_of _ _ c.requires.sheet_value in
    net.laid

pub start_columns-requires-clause-nodes_bound : goal.start_columns-requires-clause-nodes_bound
start_columns-requires-clause-nodes_bound c =
    let net = network_of _ _ c.requires.sheet_value in
    (net.nodes, net.links)

pub slice_bounds-run-end : goal.slice_bounds-run-end
slice_bounds-run-end c =
    let first_of : State = state c.start_columns.new.heads c.start_columns.new.demands c.start_columns.new.drawn c.start_columns.new.flows c.start_columns.new.statuses (replicate 64 false) in
    let full_of : Full first_of = full first_of _ c.start_columns.ensures (start_full _ _) in
    omega (arith, full_of)

pub slice_bounds-run-end-2 : goal.slice_bounds-run-end-2
slice_bounds-run-end-2 c =
    let first_of : State = state c.start_columns.new.heads c.start_columns.new.demands c.start_columns.new.drawn c.start_columns.new.flows c.start_columns.new.statuses (replicate 64 false) in
    let full_of : Full first_of = full first_of _ c.start_columns.ensures (start_full _ _) in
    omega (arith, full_of)

pub slice_bounds-run-end-3 : goal.slice_bounds-run-end-3
slice_bounds-run-end-3 c =
    let first_of : State = state c.start_columns.new.heads c.start_columns.new.demands c.start_columns.new.drawn c.start_columns.new.flows c.start_columns.new.statuses (replicate 64 false) in
    let full_of : Full first_of = full first_of _ c.start_columns.ensures (start_full _ _) in
    omega (arith, full_of)

pub slice_bounds-run-end-4 : goal.slice_bounds-run-end-4
slice_bounds-run-end-4 c =
    let first_of : State = state c.start_columns.new.heads c.start_columns.new.demands c.start_columns.new.drawn c.start_columns.new.flows c.start_columns.new.statuses (replicate 64 false) in
    let full_of : Full first_of = full first_of _ c.start_columns.ensures (start_full _ _) in
    omega (arith, full_of)

pub slice_bounds-run-end-5 : goal.slice_bounds-run-end-5
slice_bounds-run-end-5 c =
    let first_of : State = state c.start_columns.new.heads c.start_columns.new.demands c.start_columns.new.drawn c.start_columns.new.flows c.start_columns.new.statuses (replicate 64 false) in
    let full_of : Full first_of = full first_of _ c.start_columns.ensures (start_full _ _) in
    omega (arith, full_of)

pub run-ran-requires-clause-sheet_value : goal.run-ran-requires-clause-sheet_value
run-ran-requires-clause-sheet_value c =
    let first_of : State = state c.start_columns.new.heads c.start_columns.new.demands c.start_columns.new.drawn c.start_columns.new.flows c.start_columns.new.statuses (replicate 64 false) in
    let full_of : Full first_of = full first_of _ c.start_columns.ensures (start_full _ _) in
    let net = network_of _ _ c.requires.sheet_value in
    let k = full_of in
    c.requires.sheet_value

pub run-ran-requires-clause-trials_value : goal.run-ran-requires-clause-trials_value
run-ran-requires-clause-trials_value c =
    let first_of : State = state c.start_columns.new.heads c.start_columns.new.demands c.start_columns.new.drawn c.start_columns.new.flows c.start_columns.new.statuses (replicate 64 false) in
    let full_of : Full first_of = full first_of _ c.start_columns.ensures (start_full _ _) in
    let net = network_of _ _ c.requires.sheet_value in
    let k = full_of in
    c.requires.trials_value

pub run-ran-requires-clause-z_value : goal.run-ran-requires-clause-z_value
run-ran-requires-clause-z_value c =
    let first_of : State = state c.start_columns.new.heads c.start_columns.new.demands c.start_columns.new.drawn c.start_columns.new.flows c.start_columns.new.statuses (replicate 64 false) in
    let full_of : Full first_of = full first_of _ c.start_columns.ensures (start_full _ _) in
    let net = network_of _ _ c.requires.sheet_value in
    let k = full_of in
    c.start_columns.ensures

pub run-ran-requires-clause-room : goal.run-ran-requires-clause-room
run-ran-requires-clause-room c =
    let first_of : State = state c.start_columns.new.heads c.start_columns.new.demands c.start_columns.new.drawn c.start_columns.new.flows c.start_columns.new.statuses (replicate 64 false) in
    let full_of : Full first_of = full first_of _ c.start_columns.ensures (start_full _ _) in
    let net = network_of _ _ c.requires.sheet_value in
    let k = full_of in
    record {
      heads = omega (arith, net.nodes, k.heads);
      demands = omega (arith, net.nodes, k.demands);
      drawn = omega (arith, net.nodes, k.drawn);
      flows = omega (arith, net.links, k.flows);
      statuses = omega (arith, net.links, k.statuses);
      grounded = omega (arith, net.nodes);
    }

pub run-ran-requires-clause-trials_in_bounds : goal.run-ran-requires-clause-trials_in_bounds
run-ran-requires-clause-trials_in_bounds c =
    let first_of : State = state c.start_columns.new.heads c.start_columns.new.demands c.start_columns.new.drawn c.start_columns.new.flows c.start_columns.new.statuses (replicate 64 false) in
    let full_of : Full first_of = full first_of _ c.start_columns.ensures (start_full _ _) in
    let net = network_of _ _ c.requires.sheet_value in
    let k = full_of in
    (c.requires.enough.entries, c.requires.enough.scratch)

pub conclude-requires-clause-laid : goal.conclude-requires-clause-laid
conclude-requires-clause-laid c =
    let first_of : State = state c.start_columns.new.heads c.start_columns.new.demands c.start_columns.new.drawn c.start_columns.new.flows c.start_columns.new.statuses (replicate 64 false) in
    let full_of : Full first_of = full first_of _ c.start_columns.ensures (start_full _ _) in
    let net = network_of _ _ c.requires.sheet_value in
    let k = full_of in
    net.laid

pub conclude-requires-clause-ends_in : goal.conclude-requires-clause-ends_in
conclude-requires-clause-ends_in c =
    let first_of : State = state c.start_columns.new.heads c.start_columns.new.demands c.start_columns.new.drawn c.start_columns.new.flows c.start_columns.new.statuses (replicate 64 false) in
    let full_of : Full first_of = full first_of _ c.start_columns.ensures (start_full _ _) in
    let net = network_of _ _ c.requires.sheet_value in
    let k = full_of in
    net.ends

pub conclude-requires-clause-nodes_in_bounds : goal.conclude-requires-clause-nodes_in_bounds
conclude-requires-clause-nodes_in_bounds c =
    let first_of : State = state c.start_columns.new.heads c.start_columns.new.demands c.start_columns.new.drawn c.start_columns.new.flows c.start_columns.new.statuses (replicate 64 false) in
    let full_of : Full first_of = full first_of _ c.start_columns.ensures (start_full _ _) in
    let net = network_of _ _ c.requires.sheet_value in
    let k = full_of in
    (c.requires.enough.heads, c.requires.enough.demands, c.requires.enough.flows, c.requires.enough.statuses)

pub conclude-requires-clause-nodes_in_bounds_2 : goal.conclude-requires-clause-nodes_in_bounds_2
conclude-requires-clause-nodes_in_bounds_2 c =
    let first_of : State = state c.start_columns.new.heads c.start_columns.new.demands c.start_columns.new.drawn c.start_columns.new.flows c.start_columns.new.statuses (replicate 64 false) in
    let full_of : Full first_of = full first_of _ c.start_columns.ensures (start_full _ _) in
    let net = network_of _ _ c.requires.sheet_value in
    let k = full_of in (
      omega (arith, net.nodes, c.run-ran.auto.h, k.heads),
      omega (arith, net.nodes, c.run-ran.auto.d, k.demands),
      omega (arith, net.nodes, c.run-ran.auto.f, k.drawn),
      omega (arith, net.links, c.run-ran.auto.q, k.flows),
      omega (arith, net.links, c.run-ran.auto.c, k.statuses),
    )

pub shape_of-entries : goal.shape_of-entries
shape_of-entries c = c.run-ran.auto.entries

pub shape_of-scratch : goal.shape_of-scratch
shape_of-scratch c = c.run-ran.auto.scratch

pub returns : goal.returns
returns c =
    let out : List Float → Solved = λ x. record { answer = c.conclude.result; lent = lent c.conclude.new.heads c.conclude.new.demands c.conclude.new.flows c.conclude.new.statuses c.run-ran.new.entries x } in
    solved_of repair_of c.args.sheet.now c.args.l c.args.trials (lent c.args.heads.now c.args.demands.now c.args.flows.now c.args.statuses.now c.args.entries.now c.args.scratch.now) _ _ c.requires.trials_value c.run-ran.ensures.state (ap out c.run-ran.ensures.emptied ∙ c.conclude.ensures c.run-ran.new.z c.run-ran.new.entries c.args.entries.now c.args.scratch.now)
