-- `stepping::take_one` meets its contract: the next turn from what is held, and its end told where it has one. Assumes nothing.
use native.Mathlib.Omega.{arith}
use mathlib.Core.Path.{◌≡◌, refl, sym, ap, ◌∙◌}
use mathlib.Core.List.{List, ◌++◌}
use borrow.Author.Rules.{rules}
use lib.ListN.{drop}
use lib.Seq.{length-take-le, length_front}
use lib.Ieee.{Float}
use Rattle.trial.specs.Trial.{repair_of}
use Rattle.answers.specs.Answers.{Solved, lent}
use Rattle.held.specs.Held.{held}
use Rattle.solver.proofs.Laws.{network_of, joined_of_lem, few_trials, emptied_part}
use Rattle.stepping.proofs.Laws.{took_more, took_answer}
use Rattle.stepping.proofs.take_one.Goals as goal

pub slice_bounds-next_turn-end-7 : goal.slice_bounds-next_turn-end-7
slice_bounds-next_turn-end-7 c = c.requires.enough.scratch

pub slice_bounds-next_turn-end-8 : goal.slice_bounds-next_turn-end-8
slice_bounds-next_turn-end-8 c = sym (length-take-le 4096 c.args.scratch.now c.requires.enough.scratch)

pub next_turn-turn-requires-clause-network : goal.next_turn-turn-requires-clause-network
next_turn-turn-requires-clause-network c =
    let net = network_of _ _ c.requires.sheet_value in
    let few = few_trials _ _ c.requires.sheet_value in
    net

pub next_turn-turn-requires-clause-joined : goal.next_turn-turn-requires-clause-joined
next_turn-turn-requires-clause-joined c =
    let net = network_of _ _ c.requires.sheet_value in
    let few = few_trials _ _ c.requires.sheet_value in
    joined_of_lem _ _ c.requires.sheet_value

pub next_turn-turn-requires-clause-room : goal.next_turn-turn-requires-clause-room
next_turn-turn-requires-clause-room c =
    let net = network_of _ _ c.requires.sheet_value in
    let few = few_trials _ _ c.requires.sheet_value in
    record {
      heads = omega (arith, net.nodes, c.told-h);
      demands = omega (arith, net.nodes, c.told-d);
      drawn = omega (arith, net.nodes, c.told-f);
      flows = omega (arith, net.links, c.told-q);
      statuses = omega (arith, net.links, c.told-c);
      grounded = omega (arith, net.nodes, c.marks_in-marks.type_inv);
    }

pub next_turn-turn-requires-clause-trials_bound : goal.next_turn-turn-requires-clause-trials_bound
next_turn-turn-requires-clause-trials_bound c =
    let net = network_of _ _ c.requires.sheet_value in
    let few = few_trials _ _ c.requires.sheet_value in
    (omega (arith, few, c.requires.trials_value), (c.requires.enough.entries, length-take-le 4096 c.args.scratch.now c.requires.enough.scratch))

pub conclude-a-requires-clause-laid : goal.conclude-a-requires-clause-laid
conclude-a-requires-clause-laid c =
    let net = network_of _ _ c.requires.sheet_value in
    net.laid

pub conclude-a-requires-clause-ends_in : goal.conclude-a-requires-clause-ends_in
conclude-a-requires-clause-ends_in c =
    let net = network_of _ _ c.requires.sheet_value in
    net.ends

pub conclude-a-requires-clause-nodes_in_bounds : goal.conclude-a-requires-clause-nodes_in_bounds
conclude-a-requires-clause-nodes_in_bounds c =
    let net = network_of _ _ c.requires.sheet_value in
    (c.requires.enough.heads, c.requires.enough.demands, c.requires.enough.flows, c.requires.enough.statuses)

pub conclude-a-requires-clause-nodes_in_bounds_2 : goal.conclude-a-requires-clause-nodes_in_bounds_2
conclude-a-requires-clause-nodes_in_bounds_2 c =
    let net = network_of _ _ c.requires.sheet_value in (
      omega (arith, net.nodes, c.told-h, c.next_turn-turn.auto.h),
      omega (arith, net.nodes, c.told-d, c.next_turn-turn.auto.d),
      omega (arith, net.nodes, c.told-f, c.next_turn-turn.auto.f),
      omega (arith, net.links, c.told-q, c.next_turn-turn.auto.q),
      omega (arith, net.links, c.told-c, c.next_turn-turn.auto.c),
    )

pub returns-in-Continue : goal.returns-in-Continue
returns-in-Continue c =
    took_more repair_of c.args.sheet.now c.args.l c.args.trials (held c.args.h.now c.args.d.now c.args.f.now c.args.q.now c.args.c.now c.args.z.now c.args.sums.now c.args.counts.now) (lent c.args.heads.now c.args.demands.now c.args.flows.now c.args.statuses.now c.args.entries.now c.args.scratch.now)
    _ _ _ _ _ c.requires.trials_value c.damping_in-damping.ensures c.tally_in-tally.ensures c.marks_in-marks.ensures c.next_turn-turn.ensures.turn c.follows.ensures
    _ _ _ _ _ _ _ c.in-Continue.is c.marks_out.ensures c.more.ensures c.keep.ensures.sums c.keep.ensures.counts c.keep.ensures.told c.next_turn-turn.ensures.cleared

pub shape_of-entries-in-Break : goal.shape_of-entries-in-Break
shape_of-entries-in-Break c = c.next_turn-turn.auto.entries

pub shape_of-scratch-in-Break : goal.shape_of-scratch-in-Break
shape_of-scratch-in-Break c = length_front c.args.scratch.now c.next_turn-turn.new.scratch 4096 c.next_turn-turn.auto.scratch

pub returns-in-Break : goal.returns-in-Break
returns-in-Break c =
    let out : List Float → Solved = λ x. record { answer = c.conclude-a.result; lent = lent c.conclude-a.new.heads c.conclude-a.new.demands c.conclude-a.new.flows c.conclude-a.new.statuses c.next_turn-turn.new.entries x } in
    took_answer repair_of c.args.sheet.now c.args.l c.args.trials (held c.args.h.now c.args.d.now c.args.f.now c.args.q.now c.args.c.now c.args.z.now c.args.sums.now c.args.counts.now) (lent c.args.heads.now c.args.demands.now c.args.flows.now c.args.statuses.now c.args.entries.now c.args.scratch.now)
    _ _ _ _ _ c.requires.trials_value c.damping_in-damping.ensures c.tally_in-tally.ensures c.marks_in-marks.ensures c.next_turn-turn.ensures.turn c.follows.ensures
    _ (out _) _ _ _ _ _ c.in-Break.is c.marks_out.ensures
    (ap out (emptied_part _ c.args.scratch.now c.next_turn-turn.ensures.cleared) ∙ c.conclude-a.ensures c.next_turn-turn.new.z c.next_turn-turn.new.entries c.args.entries.now c.args.scratch.now)
    refl c.keep-in-Break.ensures.sums c.keep-in-Break.ensures.counts c.keep-in-Break.ensures.told
