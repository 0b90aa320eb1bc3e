use native.Mathlib.Omega.{arith}
use Prim.Native.Nat.{ℕ}
use mathlib.Core.Path.{refl, sym, ap, ◌∙◌}
use lib.ListN.{length}
use mathlib.Core.List.{List}
use Rattle.links.specs.Links.{link_end}
use Rattle.columns.specs.Columns.{add_to}
use Rattle.touching.proofs.Walk.{ends_within, all_left, none_left, link_in, next-left}
use Rattle.tanks.specs.Tanks.{tanks}
use Rattle.tanks.proofs.Walks.{through, walk_next, through_here, through_other, through_none, to_touching}
use Rattle.tanks.proofs.links_to.Goals as goal
use Rattle.tanks.proofs.links_to.Goals.{then-link_end-i, else-link_end-i}

pub loop-p-init : goal.loop-p-init
loop-p-init c = record { from = omega arith; made = ap (λ (x : List ℕ). through (link_end c.args.sheet.now c.args.l) add_to c.args.full c.args.empty c.args.i c.args.flows.now x (tanks c.args.demands.now c.args.statuses.now)) (sym (all_left _ _ _ _ _ _ c.requires.links_at _ c.requires.i_lt_nodes.0)) ∙ to_touching _ _ _ _ _ _ _ _; d_long = refl; c_long = refl }

pub offset_bounds-listed-p : goal.offset_bounds-listed-p
offset_bounds-listed-p c = omega (arith, c.loop-p-test.true, ends_within _ _ _ _ _ _ c.requires.links_at _ c.requires.i_lt_nodes.0)

pub bounds-listed-p : goal.bounds-listed-p
bounds-listed-p c = omega (arith, c.loop-p-test.true, ends_within _ _ _ _ _ _ c.requires.links_at _ c.requires.i_lt_nodes.0)

pub link_end-requires-clause-laid : goal.link_end-requires-clause-laid
link_end-requires-clause-laid c = c.requires.laid

pub link_end-requires-clause-j_lt_links : goal.link_end-requires-clause-j_lt_links
link_end-requires-clause-j_lt_links c = link_in _ _ _ _ _ _ c.requires.links_at _ c.requires.i_lt_nodes.0 _ c.loop-p.invariant.from c.loop-p-test.true

pub offset_bounds-flows-j : goal.offset_bounds-flows-j
offset_bounds-flows-j c =
    let below = link_in _ _ _ _ _ _ c.requires.links_at _ c.requires.i_lt_nodes.0 _ c.loop-p.invariant.from c.loop-p-test.true in
    omega (arith, below, c.requires.i_lt_nodes)

pub bounds-flows-j : goal.bounds-flows-j
bounds-flows-j c =
    let below = link_in _ _ _ _ _ _ c.requires.links_at _ c.requires.i_lt_nodes.0 _ c.loop-p.invariant.from c.loop-p-test.true in
    omega (arith, below, c.requires.i_lt_nodes)

pub add_to-requires : goal.add_to-requires
add_to-requires c = omega (arith, c.loop-p.invariant.d_long, c.requires.i_lt_nodes)

pub offset_bounds-flows-j-then-link_end-i : goal.offset_bounds-flows-j-then-link_end-i
offset_bounds-flows-j-then-link_end-i c =
    let below = link_in _ _ _ _ _ _ c.requires.links_at _ c.requires.i_lt_nodes.0 _ c.loop-p.invariant.from c.loop-p-test.true in
    omega (arith, below, c.requires.i_lt_nodes)

pub bounds-flows-j-then-link_end-i : goal.bounds-flows-j-then-link_end-i
bounds-flows-j-then-link_end-i c =
    let below = link_in _ _ _ _ _ _ c.requires.links_at _ c.requires.i_lt_nodes.0 _ c.loop-p.invariant.from c.loop-p-test.true in
    omega (arith, below, c.requires.i_lt_nodes)

pub shut_link-requires : goal.shut_link-requires
shut_link-requires c =
    let below = link_in _ _ _ _ _ _ c.requires.links_at _ c.requires.i_lt_nodes.0 _ c.loop-p.invariant.from c.loop-p-test.true in
    omega (arith, below, c.loop-p.invariant.c_long, c.requires.i_lt_nodes)

pub overflow_step-p : goal.overflow_step-p
overflow_step-p c = omega (arith, c.loop-p-test.true, ends_within _ _ _ _ _ _ c.requires.links_at _ c.requires.i_lt_nodes.0)

pub loop-p-preserved : goal.loop-p-preserved
loop-p-preserved c =
    let next = next-left _ _ _ _ _ _ c.requires.links_at _ c.requires.i_lt_nodes.0 _ c.loop-p.invariant.from c.loop-p-test.true in
    let here = through_here (link_end c.args.sheet.now c.args.l) add_to c.args.full c.args.empty c.args.i c.args.flows.now _ _ _ _ c.loop-p.demands _ c.loop-p.statuses _ next c.link_end.ensures in
    let other = through_other (link_end c.args.sheet.now c.args.l) add_to c.args.full c.args.empty c.args.i c.args.flows.now _ _ _ _ c.loop-p.demands _ c.loop-p.statuses _ next c.link_end.ensures in
    elim c.if-link_end-i.branch [
      | then-link_end-i w ↦ walk_next c.loop-p.invariant (here w.if-link_end-i.true (w.demands-is ∙ w.add_to.ensures) (w.statuses-is ∙ w.shut_link.ensures)) (omega (arith, ap length w.demands-is, w.add_to.auto)) (omega (arith, ap length w.statuses-is, w.shut_link.auto))
      | else-link_end-i w ↦ walk_next c.loop-p.invariant (other w.if-link_end-i.false w.demands-is w.statuses-is) (ap length w.demands-is) (ap length w.statuses-is)
    ]

pub shape_of-demands : goal.shape_of-demands
shape_of-demands c = c.loop-p.invariant.d_long

pub shape_of-statuses : goal.shape_of-statuses
shape_of-statuses c = c.loop-p.invariant.c_long

pub returns : goal.returns
returns c = through_none _ _ _ _ _ _ _ _ (none_left _ _ _ _ _ _ c.requires.links_at _ c.requires.i_lt_nodes.0 _ c.loop-p-test.false) ∙ c.loop-p.invariant.made
