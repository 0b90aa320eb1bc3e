-- `conclusion::conclude` meets its contract: one of the four ends. Assumes nothing.
use native.Mathlib.Omega.{arith}
use mathlib.Core.Path.{◌≡◌, sym, subst}
use borrow.Author.Rules.{rules}
use Prim.Native.Nat.{◌≤◌}
use mathlib.Core.List.{List}
use lib.ListN.{length}
use lib.Ieee.{Float}
use Rattle.drawing.proofs.Laws.{counting_long}
use Rattle.state.specs.State.{state}
use Rattle.answers.specs.Answers.{lent}
use Rattle.conclusion.proofs.Laws.{told_balanced, told_failed, told_strayed, told_limit}
use Rattle.conclusion.proofs.conclude.Goals as goal

pub balanced-t-requires-clause-laid : goal.balanced-t-requires-clause-laid
balanced-t-requires-clause-laid c = c.requires.laid

pub balanced-t-requires-clause-ends_in : goal.balanced-t-requires-clause-ends_in
balanced-t-requires-clause-ends_in c = c.requires.ends_in

pub balanced-t-requires-clause-nodes_in_bounds : goal.balanced-t-requires-clause-nodes_in_bounds
balanced-t-requires-clause-nodes_in_bounds c = omega (arith, c.requires.nodes_in_bounds_2)

pub give-requires-clause-nodes_in_bounds : goal.give-requires-clause-nodes_in_bounds
give-requires-clause-nodes_in_bounds c =
    let long = subst (λ (x : List Float). c.args.l.nodes ≤ length x) (sym c.counts-counted.ensures) (counting_long _ _ _ _ c.requires.nodes_in_bounds_2.2 c.requires.nodes_in_bounds_2.1) in
    c.requires.nodes_in_bounds

pub give-requires-clause-nodes_in_bounds_2 : goal.give-requires-clause-nodes_in_bounds_2
give-requires-clause-nodes_in_bounds_2 c =
    let long = subst (λ (x : List Float). c.args.l.nodes ≤ length x) (sym c.counts-counted.ensures) (counting_long _ _ _ _ c.requires.nodes_in_bounds_2.2 c.requires.nodes_in_bounds_2.1) in
    (c.requires.nodes_in_bounds_2.0, long, c.requires.nodes_in_bounds_2.3, c.requires.nodes_in_bounds_2.4)

pub settle-requires : goal.settle-requires
settle-requires c = omega (arith, c.requires.nodes_in_bounds, c.give.auto)

pub returns-in-Balanced : goal.returns-in-Balanced
returns-in-Balanced c = (λ marks bytes record₀ scratch. told_balanced c.args.sheet.now c.args.l c.args.trials (lent c.args.heads.now c.args.demands.now c.args.flows.now c.args.statuses.now record₀ scratch) (state c.args.h.now c.args.d.now c.args.f.now c.args.q.now c.args.c.now marks) c.args.tally bytes c.args.ended c.balanced-t.result _ _ _ _ _ _ c.in-Balanced.is c.balanced-t.ensures c.counts-counted.ensures c.give.ensures.heads c.give.ensures.demands c.settle.ensures c.give.ensures.flows c.give.ensures.statuses)

pub returns-in-Failed : goal.returns-in-Failed
returns-in-Failed c = (λ marks bytes record₀ scratch. told_failed c.args.sheet.now c.args.l c.args.trials (lent c.args.heads.now c.args.demands.now c.args.flows.now c.args.statuses.now record₀ scratch) (state c.args.h.now c.args.d.now c.args.f.now c.args.q.now c.args.c.now marks) c.args.tally bytes c.args.ended _ _ c.in-Failed.is c.failed.ensures)

pub returns-in-Strayed : goal.returns-in-Strayed
returns-in-Strayed c = (λ marks bytes record₀ scratch. told_strayed c.args.sheet.now c.args.l c.args.trials (lent c.args.heads.now c.args.demands.now c.args.flows.now c.args.statuses.now record₀ scratch) (state c.args.h.now c.args.d.now c.args.f.now c.args.q.now c.args.c.now marks) c.args.tally bytes c.args.ended _ _ c.in-Strayed.is c.failed-in-Strayed.ensures)

pub returns-in-Limit : goal.returns-in-Limit
returns-in-Limit c = (λ marks bytes record₀ scratch. told_limit c.args.sheet.now c.args.l c.args.trials (lent c.args.heads.now c.args.demands.now c.args.flows.now c.args.statuses.now record₀ scratch) (state c.args.h.now c.args.d.now c.args.f.now c.args.q.now c.args.c.now marks) c.args.tally bytes c.args.ended _ c.in-Limit.is c.failed-in-Limit.ensures)
