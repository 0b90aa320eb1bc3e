-- `turns::next_turn` meets its contract: a turn where one is due, with the unknowns numbered for it. Assumes nothing.
use native.Mathlib.Omega.{arith}
use mathlib.Core.Path.{◌≡◌, sym, ◌∙◌, subst}
use mathlib.Core.List.{List}
use mathlib.Core.Bool.{true, false}
use Prim.Native.Nat.{ℕ}
use borrow.Author.Rules.{rules}
use Rattle.columns.specs.Columns.{zeros}
use Rattle.columns.proofs.Laws.{cleared_zeros}
use Rattle.numbering.proofs.Rows.{rows_right}
use Rattle.numbering.specs.Numbering.{RowsRight}
use Rattle.state.specs.State.{state}
use Rattle.trial.specs.Trial.{repair_of}
use Rattle.turns.specs.Turns.{due}
use Rattle.turns.proofs.Laws.{due_is, not_so, so, next_due, next_none}
use mathlib.Core.Path.{ap}
use mathlib.Core.Bool.{not}
use Rattle.turns.proofs.next_turn.Goals as goal

pub returns-then-not-due-clause-turn : goal.returns-then-not-due-clause-turn
returns-then-not-due-clause-turn c =
    let wiped : c.clear.new.x ≡ zeros 4096 = c.clear.ensures ∙ cleared_zeros 4096 _ c.requires.trials_bound.1.1 in
    next_none repair_of c.args.sheet.now c.args.l c.args.trials c.args.damping c.args.tally c.args.entries.now (state c.args.h.now c.args.d.now c.args.f.now c.args.q.now c.args.c.now c.args.z.now) (sym c.due.ensures ∙ not_so _ (ap not c.if-not-due.true))

pub returns-then-not-due-clause-cleared : goal.returns-then-not-due-clause-cleared
returns-then-not-due-clause-cleared c =
    let wiped : c.clear.new.x ≡ zeros 4096 = c.clear.ensures ∙ cleared_zeros 4096 _ c.requires.trials_bound.1.1 in
    wiped

pub list_at_nodes-requires-clause-laid : goal.list_at_nodes-requires-clause-laid
list_at_nodes-requires-clause-laid c = c.requires.network.laid

pub list_at_nodes-requires-clause-joined : goal.list_at_nodes-requires-clause-joined
list_at_nodes-requires-clause-joined c = c.requires.joined

pub list_at_nodes-requires-clause-links_bound : goal.list_at_nodes-requires-clause-links_bound
list_at_nodes-requires-clause-links_bound c = omega (arith, c.requires.network.nodes, c.requires.network.links)

pub advance-requires-clause-network : goal.advance-requires-clause-network
advance-requires-clause-network c =
    let wiped : c.clear.new.x ≡ zeros 4096 = c.clear.ensures ∙ cleared_zeros 4096 _ c.requires.trials_bound.1.1 in
    let w = due_is c.args.trials c.args.tally (sym c.due.ensures ∙ c.if-not-due.false) in
    c.requires.network

pub advance-requires-clause-links_at : goal.advance-requires-clause-links_at
advance-requires-clause-links_at c =
    let wiped : c.clear.new.x ≡ zeros 4096 = c.clear.ensures ∙ cleared_zeros 4096 _ c.requires.trials_bound.1.1 in
    let w = due_is c.args.trials c.args.tally (sym c.due.ensures ∙ c.if-not-due.false) in
    c.list_at_nodes.ensures.right

pub advance-requires-clause-nodes_in_bounds : goal.advance-requires-clause-nodes_in_bounds
advance-requires-clause-nodes_in_bounds c =
    let wiped : c.clear.new.x ≡ zeros 4096 = c.clear.ensures ∙ cleared_zeros 4096 _ c.requires.trials_bound.1.1 in
    let w = due_is c.args.trials c.args.tally (sym c.due.ensures ∙ c.if-not-due.false) in (
      omega (arith, c.requires.network.nodes, c.number_unknowns.auto.unknowns),
      subst (λ (x : List ℕ). RowsRight c.args.l c.args.sheet.now x) (sym c.number_unknowns.ensures) (rows_right c.args.sheet.now c.args.l _ (omega (arith, c.requires.network.nodes)) (omega (arith, c.requires.network.nodes))),
    )

pub advance-requires-clause-room : goal.advance-requires-clause-room
advance-requires-clause-room c =
    let wiped : c.clear.new.x ≡ zeros 4096 = c.clear.ensures ∙ cleared_zeros 4096 _ c.requires.trials_bound.1.1 in
    let w = due_is c.args.trials c.args.tally (sym c.due.ensures ∙ c.if-not-due.false) in
    c.requires.room

pub advance-requires-clause-trials_bound : goal.advance-requires-clause-trials_bound
advance-requires-clause-trials_bound c =
    let wiped : c.clear.new.x ≡ zeros 4096 = c.clear.ensures ∙ cleared_zeros 4096 _ c.requires.trials_bound.1.1 in
    let w = due_is c.args.trials c.args.tally (sym c.due.ensures ∙ c.if-not-due.false) in
    omega (arith, w, c.requires.trials_bound)

pub advance-requires-clause-trials_in_bounds : goal.advance-requires-clause-trials_in_bounds
advance-requires-clause-trials_in_bounds c =
    let wiped : c.clear.new.x ≡ zeros 4096 = c.clear.ensures ∙ cleared_zeros 4096 _ c.requires.trials_bound.1.1 in
    let w = due_is c.args.trials c.args.tally (sym c.due.ensures ∙ c.if-not-due.false) in
    (omega (arith, w, c.requires.trials_bound), wiped)

pub shape_of-scratch : goal.shape_of-scratch
shape_of-scratch c = c.advance.auto.scratch ∙ c.clear.auto.x

pub returns-clause-turn : goal.returns-clause-turn
returns-clause-turn c = c.advance.ensures.turn ∙ next_due repair_of c.args.sheet.now c.args.l c.args.trials c.args.damping c.args.tally c.args.entries.now (state c.args.h.now c.args.d.now c.args.f.now c.args.q.now c.args.c.now c.args.z.now) (sym c.due.ensures ∙ c.if-not-due.false)

pub returns-clause-cleared : goal.returns-clause-cleared
returns-clause-cleared c = c.advance.ensures.cleared
