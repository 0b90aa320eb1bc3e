use native.Mathlib.Omega.{arith}
use mathlib.Core.Path.{sym, ap, ◌∙◌}
use Rattle.touching.proofs.Walk.{ends_within, all_left, none_left, link_in, link-touches, next-left}
use Rattle.repair.proofs.Laws.{first_in, regulates_touching, regulator_touching, regulator_next, regulator_found, regulator_none}
use Rattle.repair.proofs.regulator_at.Goals as goal

pub loop-p-init : goal.loop-p-init
loop-p-init c = (omega arith, ap (first_in c.args.sheet.now c.args.l c.args.statuses.now c.args.node.0) (sym (all_left _ _ _ _ _ _ c.requires.links_at _ c.requires.node_lt_nodes.0)) ∙ regulator_touching _ _ _ _)

pub offset_bounds-listed-p : goal.offset_bounds-listed-p
offset_bounds-listed-p c = omega (arith, c.loop-p-test.true, ends_within _ _ _ _ _ _ c.requires.links_at _ c.requires.node_lt_nodes.0)

pub bounds-listed-p : goal.bounds-listed-p
bounds-listed-p c = omega (arith, c.loop-p-test.true, ends_within _ _ _ _ _ _ c.requires.links_at _ c.requires.node_lt_nodes.0)

pub regulates-requires-clause-laid : goal.regulates-requires-clause-laid
regulates-requires-clause-laid c =
    let below = link_in _ _ _ _ _ _ c.requires.links_at _ c.requires.node_lt_nodes.0 _ c.loop-p.invariant.0 c.loop-p-test.true in
    c.requires.laid

pub regulates-requires-clause-j_lt_links : goal.regulates-requires-clause-j_lt_links
regulates-requires-clause-j_lt_links c =
    let below = link_in _ _ _ _ _ _ c.requires.links_at _ c.requires.node_lt_nodes.0 _ c.loop-p.invariant.0 c.loop-p-test.true in
    (below, omega (arith, below, c.requires.node_lt_nodes))

pub returns-then-regulates : goal.returns-then-regulates
returns-then-regulates c =
    let is = regulates_touching _ _ _ _ _ _ (link-touches _ _ _ _ _ _ c.requires.links_at _ c.requires.node_lt_nodes.0 _ c.loop-p.invariant.0 c.loop-p-test.true) c.regulates.ensures in
    let next = next-left _ _ _ _ _ _ c.requires.links_at _ c.requires.node_lt_nodes.0 _ c.loop-p.invariant.0 c.loop-p-test.true in
    regulator_found _ _ _ _ _ _ _ next (sym is ∙ c.if-regulates.true) ∙ c.loop-p.invariant.1

pub overflow_step-p : goal.overflow_step-p
overflow_step-p c = omega (arith, c.loop-p-test.true, ends_within _ _ _ _ _ _ c.requires.links_at _ c.requires.node_lt_nodes.0)

pub loop-p-preserved : goal.loop-p-preserved
loop-p-preserved c =
    let is = regulates_touching _ _ _ _ _ _ (link-touches _ _ _ _ _ _ c.requires.links_at _ c.requires.node_lt_nodes.0 _ c.loop-p.invariant.0 c.loop-p-test.true) c.regulates.ensures in
    let next = next-left _ _ _ _ _ _ c.requires.links_at _ c.requires.node_lt_nodes.0 _ c.loop-p.invariant.0 c.loop-p-test.true in
    (omega (arith, c.loop-p.invariant.0), regulator_next _ _ _ _ _ _ _ next (sym is ∙ c.if-regulates.false) ∙ c.loop-p.invariant.1)

pub returns : goal.returns
returns c = regulator_none _ _ _ _ _ (none_left _ _ _ _ _ _ c.requires.links_at _ c.requires.node_lt_nodes.0 _ c.loop-p-test.false) ∙ c.loop-p.invariant.1
