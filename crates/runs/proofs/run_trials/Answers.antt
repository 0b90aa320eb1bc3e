-- `runs::run_trials` meets its contract: what is left to run, from the state, the record and the tally as they stand, gives what the whole run gives. Assumes nothing.
use borrow.Author.Rules.{rules}
use native.Mathlib.Omega.{arith}
use Prim.Native.Nat.{◌-◌, ◌≤◌}
use mathlib.Core.Path.{◌≡◌, ◌∙◌}
use native.Mathlib.Nat.{sub-zero}
use Rattle.state.specs.State.{state}
use Rattle.trial.specs.Trial.{repair_of}
use Rattle.entries.specs.Entries.{damping_start, none}
use Rattle.columns.specs.Columns.{zeros}
use Rattle.columns.proofs.Laws.{cleared_zeros}
use Rattle.runs.specs.Run.{run_with, finish}
use Rattle.runs.proofs.Laws.{Kept, kept_start, kept_room, Counts, turn_counts, run_on, run_over, run_limit}
use Rattle.runs.proofs.run_trials.Goals as goal

pub clear-requires : goal.clear-requires
clear-requires c = omega (arith, c.requires.trials_bound.1.1)

pub loop-tally-init : goal.loop-tally-init
loop-tally-init c = (kept_start _ _ _, omega arith, omega arith, omega arith, rw (sub-zero, c.damping_start-d.ensures), c.clear.ensures ∙ cleared_zeros 4096 _ c.requires.trials_bound.1.1)

pub advance-turn-requires-clause-network : goal.advance-turn-requires-clause-network
advance-turn-requires-clause-network c = c.requires.network

pub advance-turn-requires-clause-links_at : goal.advance-turn-requires-clause-links_at
advance-turn-requires-clause-links_at c = c.requires.links_at

pub advance-turn-requires-clause-nodes_in_bounds : goal.advance-turn-requires-clause-nodes_in_bounds
advance-turn-requires-clause-nodes_in_bounds c = c.requires.nodes_in_bounds

pub advance-turn-requires-clause-room : goal.advance-turn-requires-clause-room
advance-turn-requires-clause-room c = kept_room _ _ _ _ _ _ _ c.loop-tally.invariant.0 c.requires.room

pub advance-turn-requires-clause-trials_bound : goal.advance-turn-requires-clause-trials_bound
advance-turn-requires-clause-trials_bound c = omega (arith, c.loop-tally.invariant.2, c.loop-tally.invariant.3, c.loop-tally-test.true, c.requires.trials_bound.0)

pub advance-turn-requires-clause-trials_in_bounds : goal.advance-turn-requires-clause-trials_in_bounds
advance-turn-requires-clause-trials_in_bounds c = (omega (arith, c.loop-tally.invariant.0.entries, c.loop-tally-test.true, c.requires.trials_bound), c.loop-tally.invariant.5)

pub loop-tally-smaller : goal.loop-tally-smaller
loop-tally-smaller c =
    let counted_of : Counts c.loop-tally.tally c.advance-turn.result.tally = turn_counts _ _ _ 0 _ _ _ _ _ c.advance-turn.ensures.turn in
    omega (arith, c.loop-tally-test.true, counted_of)

pub loop-tally-preserved : goal.loop-tally-preserved
loop-tally-preserved c =
    let counted_of : Counts c.loop-tally.tally c.advance-turn.result.tally = turn_counts _ _ _ 0 _ _ _ _ _ c.advance-turn.ensures.turn in
    let kept_on : Kept (state c.args.heads.now c.args.demands.now c.args.drawn.now c.args.flows.now c.args.statuses.now c.args.grounded.now) (state c.advance-turn.new.heads c.advance-turn.new.demands c.advance-turn.new.drawn c.advance-turn.new.flows c.advance-turn.new.statuses c.advance-turn.new.grounded) c.args.entries.now c.advance-turn.new.entries c.clear.new.x c.advance-turn.new.scratch = record {
      heads = c.advance-turn.auto.heads ∙ c.loop-tally.invariant.0.heads;
      demands = c.advance-turn.auto.demands ∙ c.loop-tally.invariant.0.demands;
      drawn = c.advance-turn.auto.drawn ∙ c.loop-tally.invariant.0.drawn;
      flows = c.advance-turn.auto.flows ∙ c.loop-tally.invariant.0.flows;
      statuses = c.advance-turn.auto.statuses ∙ c.loop-tally.invariant.0.statuses;
      grounded = c.advance-turn.auto.grounded ∙ c.loop-tally.invariant.0.grounded;
      entries = c.advance-turn.auto.entries ∙ c.loop-tally.invariant.0.entries;
      scratch = c.advance-turn.auto.scratch ∙ c.loop-tally.invariant.0.scratch;
    } in
    let n = counted_of in (
      kept_on,
      omega (arith, c.loop-tally-test.true, n),
      omega (arith, n, c.loop-tally.invariant.2),
      omega (arith, n, c.loop-tally.invariant.3),
      run_on _ _ _ _ _ _ _ _ _ _ c.loop-tally-test.true c.advance-turn.ensures.turn c.in-Continue.is ∙ c.loop-tally.invariant.4,
      c.advance-turn.ensures.cleared,
    )

pub shape_of-heads-in-Break : goal.shape_of-heads-in-Break
shape_of-heads-in-Break c =
    let kept_on : Kept (state c.args.heads.now c.args.demands.now c.args.drawn.now c.args.flows.now c.args.statuses.now c.args.grounded.now) (state c.advance-turn.new.heads c.advance-turn.new.demands c.advance-turn.new.drawn c.advance-turn.new.flows c.advance-turn.new.statuses c.advance-turn.new.grounded) c.args.entries.now c.advance-turn.new.entries c.clear.new.x c.advance-turn.new.scratch = record {
      heads = c.advance-turn.auto.heads ∙ c.loop-tally.invariant.0.heads;
      demands = c.advance-turn.auto.demands ∙ c.loop-tally.invariant.0.demands;
      drawn = c.advance-turn.auto.drawn ∙ c.loop-tally.invariant.0.drawn;
      flows = c.advance-turn.auto.flows ∙ c.loop-tally.invariant.0.flows;
      statuses = c.advance-turn.auto.statuses ∙ c.loop-tally.invariant.0.statuses;
      grounded = c.advance-turn.auto.grounded ∙ c.loop-tally.invariant.0.grounded;
      entries = c.advance-turn.auto.entries ∙ c.loop-tally.invariant.0.entries;
      scratch = c.advance-turn.auto.scratch ∙ c.loop-tally.invariant.0.scratch;
    } in
    kept_on.heads

pub shape_of-demands-in-Break : goal.shape_of-demands-in-Break
shape_of-demands-in-Break c =
    let kept_on : Kept (state c.args.heads.now c.args.demands.now c.args.drawn.now c.args.flows.now c.args.statuses.now c.args.grounded.now) (state c.advance-turn.new.heads c.advance-turn.new.demands c.advance-turn.new.drawn c.advance-turn.new.flows c.advance-turn.new.statuses c.advance-turn.new.grounded) c.args.entries.now c.advance-turn.new.entries c.clear.new.x c.advance-turn.new.scratch = record {
      heads = c.advance-turn.auto.heads ∙ c.loop-tally.invariant.0.heads;
      demands = c.advance-turn.auto.demands ∙ c.loop-tally.invariant.0.demands;
      drawn = c.advance-turn.auto.drawn ∙ c.loop-tally.invariant.0.drawn;
      flows = c.advance-turn.auto.flows ∙ c.loop-tally.invariant.0.flows;
      statuses = c.advance-turn.auto.statuses ∙ c.loop-tally.invariant.0.statuses;
      grounded = c.advance-turn.auto.grounded ∙ c.loop-tally.invariant.0.grounded;
      entries = c.advance-turn.auto.entries ∙ c.loop-tally.invariant.0.entries;
      scratch = c.advance-turn.auto.scratch ∙ c.loop-tally.invariant.0.scratch;
    } in
    kept_on.demands

pub shape_of-drawn-in-Break : goal.shape_of-drawn-in-Break
shape_of-drawn-in-Break c =
    let kept_on : Kept (state c.args.heads.now c.args.demands.now c.args.drawn.now c.args.flows.now c.args.statuses.now c.args.grounded.now) (state c.advance-turn.new.heads c.advance-turn.new.demands c.advance-turn.new.drawn c.advance-turn.new.flows c.advance-turn.new.statuses c.advance-turn.new.grounded) c.args.entries.now c.advance-turn.new.entries c.clear.new.x c.advance-turn.new.scratch = record {
      heads = c.advance-turn.auto.heads ∙ c.loop-tally.invariant.0.heads;
      demands = c.advance-turn.auto.demands ∙ c.loop-tally.invariant.0.demands;
      drawn = c.advance-turn.auto.drawn ∙ c.loop-tally.invariant.0.drawn;
      flows = c.advance-turn.auto.flows ∙ c.loop-tally.invariant.0.flows;
      statuses = c.advance-turn.auto.statuses ∙ c.loop-tally.invariant.0.statuses;
      grounded = c.advance-turn.auto.grounded ∙ c.loop-tally.invariant.0.grounded;
      entries = c.advance-turn.auto.entries ∙ c.loop-tally.invariant.0.entries;
      scratch = c.advance-turn.auto.scratch ∙ c.loop-tally.invariant.0.scratch;
    } in
    kept_on.drawn

pub shape_of-flows-in-Break : goal.shape_of-flows-in-Break
shape_of-flows-in-Break c =
    let kept_on : Kept (state c.args.heads.now c.args.demands.now c.args.drawn.now c.args.flows.now c.args.statuses.now c.args.grounded.now) (state c.advance-turn.new.heads c.advance-turn.new.demands c.advance-turn.new.drawn c.advance-turn.new.flows c.advance-turn.new.statuses c.advance-turn.new.grounded) c.args.entries.now c.advance-turn.new.entries c.clear.new.x c.advance-turn.new.scratch = record {
      heads = c.advance-turn.auto.heads ∙ c.loop-tally.invariant.0.heads;
      demands = c.advance-turn.auto.demands ∙ c.loop-tally.invariant.0.demands;
      drawn = c.advance-turn.auto.drawn ∙ c.loop-tally.invariant.0.drawn;
      flows = c.advance-turn.auto.flows ∙ c.loop-tally.invariant.0.flows;
      statuses = c.advance-turn.auto.statuses ∙ c.loop-tally.invariant.0.statuses;
      grounded = c.advance-turn.auto.grounded ∙ c.loop-tally.invariant.0.grounded;
      entries = c.advance-turn.auto.entries ∙ c.loop-tally.invariant.0.entries;
      scratch = c.advance-turn.auto.scratch ∙ c.loop-tally.invariant.0.scratch;
    } in
    kept_on.flows

pub shape_of-statuses-in-Break : goal.shape_of-statuses-in-Break
shape_of-statuses-in-Break c =
    let kept_on : Kept (state c.args.heads.now c.args.demands.now c.args.drawn.now c.args.flows.now c.args.statuses.now c.args.grounded.now) (state c.advance-turn.new.heads c.advance-turn.new.demands c.advance-turn.new.drawn c.advance-turn.new.flows c.advance-turn.new.statuses c.advance-turn.new.grounded) c.args.entries.now c.advance-turn.new.entries c.clear.new.x c.advance-turn.new.scratch = record {
      heads = c.advance-turn.auto.heads ∙ c.loop-tally.invariant.0.heads;
      demands = c.advance-turn.auto.demands ∙ c.loop-tally.invariant.0.demands;
      drawn = c.advance-turn.auto.drawn ∙ c.loop-tally.invariant.0.drawn;
      flows = c.advance-turn.auto.flows ∙ c.loop-tally.invariant.0.flows;
      statuses = c.advance-turn.auto.statuses ∙ c.loop-tally.invariant.0.statuses;
      grounded = c.advance-turn.auto.grounded ∙ c.loop-tally.invariant.0.grounded;
      entries = c.advance-turn.auto.entries ∙ c.loop-tally.invariant.0.entries;
      scratch = c.advance-turn.auto.scratch ∙ c.loop-tally.invariant.0.scratch;
    } in
    kept_on.statuses

pub shape_of-grounded-in-Break : goal.shape_of-grounded-in-Break
shape_of-grounded-in-Break c =
    let kept_on : Kept (state c.args.heads.now c.args.demands.now c.args.drawn.now c.args.flows.now c.args.statuses.now c.args.grounded.now) (state c.advance-turn.new.heads c.advance-turn.new.demands c.advance-turn.new.drawn c.advance-turn.new.flows c.advance-turn.new.statuses c.advance-turn.new.grounded) c.args.entries.now c.advance-turn.new.entries c.clear.new.x c.advance-turn.new.scratch = record {
      heads = c.advance-turn.auto.heads ∙ c.loop-tally.invariant.0.heads;
      demands = c.advance-turn.auto.demands ∙ c.loop-tally.invariant.0.demands;
      drawn = c.advance-turn.auto.drawn ∙ c.loop-tally.invariant.0.drawn;
      flows = c.advance-turn.auto.flows ∙ c.loop-tally.invariant.0.flows;
      statuses = c.advance-turn.auto.statuses ∙ c.loop-tally.invariant.0.statuses;
      grounded = c.advance-turn.auto.grounded ∙ c.loop-tally.invariant.0.grounded;
      entries = c.advance-turn.auto.entries ∙ c.loop-tally.invariant.0.entries;
      scratch = c.advance-turn.auto.scratch ∙ c.loop-tally.invariant.0.scratch;
    } in
    kept_on.grounded

pub shape_of-entries-in-Break : goal.shape_of-entries-in-Break
shape_of-entries-in-Break c =
    let kept_on : Kept (state c.args.heads.now c.args.demands.now c.args.drawn.now c.args.flows.now c.args.statuses.now c.args.grounded.now) (state c.advance-turn.new.heads c.advance-turn.new.demands c.advance-turn.new.drawn c.advance-turn.new.flows c.advance-turn.new.statuses c.advance-turn.new.grounded) c.args.entries.now c.advance-turn.new.entries c.clear.new.x c.advance-turn.new.scratch = record {
      heads = c.advance-turn.auto.heads ∙ c.loop-tally.invariant.0.heads;
      demands = c.advance-turn.auto.demands ∙ c.loop-tally.invariant.0.demands;
      drawn = c.advance-turn.auto.drawn ∙ c.loop-tally.invariant.0.drawn;
      flows = c.advance-turn.auto.flows ∙ c.loop-tally.invariant.0.flows;
      statuses = c.advance-turn.auto.statuses ∙ c.loop-tally.invariant.0.statuses;
      grounded = c.advance-turn.auto.grounded ∙ c.loop-tally.invariant.0.grounded;
      entries = c.advance-turn.auto.entries ∙ c.loop-tally.invariant.0.entries;
      scratch = c.advance-turn.auto.scratch ∙ c.loop-tally.invariant.0.scratch;
    } in
    kept_on.entries

pub shape_of-scratch-in-Break : goal.shape_of-scratch-in-Break
shape_of-scratch-in-Break c =
    let kept_on : Kept (state c.args.heads.now c.args.demands.now c.args.drawn.now c.args.flows.now c.args.statuses.now c.args.grounded.now) (state c.advance-turn.new.heads c.advance-turn.new.demands c.advance-turn.new.drawn c.advance-turn.new.flows c.advance-turn.new.statuses c.advance-turn.new.grounded) c.args.entries.now c.advance-turn.new.entries c.clear.new.x c.advance-turn.new.scratch = record {
      heads = c.advance-turn.auto.heads ∙ c.loop-tally.invariant.0.heads;
      demands = c.advance-turn.auto.demands ∙ c.loop-tally.invariant.0.demands;
      drawn = c.advance-turn.auto.drawn ∙ c.loop-tally.invariant.0.drawn;
      flows = c.advance-turn.auto.flows ∙ c.loop-tally.invariant.0.flows;
      statuses = c.advance-turn.auto.statuses ∙ c.loop-tally.invariant.0.statuses;
      grounded = c.advance-turn.auto.grounded ∙ c.loop-tally.invariant.0.grounded;
      entries = c.advance-turn.auto.entries ∙ c.loop-tally.invariant.0.entries;
      scratch = c.advance-turn.auto.scratch ∙ c.loop-tally.invariant.0.scratch;
    } in
    kept_on.scratch ∙ c.clear.auto.x

pub returns-in-Break-clause-state : goal.returns-in-Break-clause-state
returns-in-Break-clause-state c = run_over _ _ _ _ _ _ _ _ _ _ c.loop-tally-test.true c.advance-turn.ensures.turn c.in-Break.is ∙ c.loop-tally.invariant.4

pub returns-in-Break-clause-cleared : goal.returns-in-Break-clause-cleared
returns-in-Break-clause-cleared c = c.advance-turn.ensures.cleared

pub shape_of-heads : goal.shape_of-heads
shape_of-heads c = c.loop-tally.invariant.0.heads

pub shape_of-demands : goal.shape_of-demands
shape_of-demands c = c.loop-tally.invariant.0.demands

pub shape_of-drawn : goal.shape_of-drawn
shape_of-drawn c = c.loop-tally.invariant.0.drawn

pub shape_of-flows : goal.shape_of-flows
shape_of-flows c = c.loop-tally.invariant.0.flows

pub shape_of-statuses : goal.shape_of-statuses
shape_of-statuses c = c.loop-tally.invariant.0.statuses

pub shape_of-grounded : goal.shape_of-grounded
shape_of-grounded c = c.loop-tally.invariant.0.grounded

pub shape_of-entries : goal.shape_of-entries
shape_of-entries c = c.loop-tally.invariant.0.entries

pub shape_of-scratch : goal.shape_of-scratch
shape_of-scratch c = c.loop-tally.invariant.0.scratch ∙ c.clear.auto.x

pub returns-clause-state : goal.returns-clause-state
returns-clause-state c = run_limit _ _ _ _ _ _ _ _ c.loop-tally-test.false ∙ c.loop-tally.invariant.4

pub returns-clause-cleared : goal.returns-clause-cleared
returns-clause-cleared c = c.loop-tally.invariant.5
