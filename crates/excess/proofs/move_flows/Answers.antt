-- `excess::move_flows` meets its contract. Assumes nothing.
use Rattle.excess.proofs.Turns.{below, flows_none, flows_next, shifted_long}
use Rattle.excess.specs.Excess.{with_flows}
use native.Mathlib.Omega.{arith}
use Prim.Native.Nat.{ℕ, ◌-◌, ◌≤◌}
use mathlib.Core.Path.{◌≡◌, refl, ap, ◌∙◌}
use lib.ListN.{length}
use Rattle.excess.proofs.move_flows.Goals as goal

pub loop-i-init : goal.loop-i-init
loop-i-init c = (omega arith, flows_none _ _ _ _, refl)

pub link_start-requires-clause-laid : goal.link_start-requires-clause-laid
link_start-requires-clause-laid c = c.requires.laid

pub link_start-requires-clause-j_lt_links : goal.link_start-requires-clause-j_lt_links
link_start-requires-clause-j_lt_links c = c.loop-i-test.true

pub link_end-requires-clause-laid : goal.link_end-requires-clause-laid
link_end-requires-clause-laid c = c.requires.laid

pub link_end-requires-clause-j_lt_links : goal.link_end-requires-clause-j_lt_links
link_end-requires-clause-j_lt_links c = c.loop-i-test.true

pub move_flow-requires : goal.move_flow-requires
move_flow-requires c = (
  below (c.requires.ends_in.start c.loop-i.i c.loop-i-test.true) c.link_start.ensures c.requires.nodes_in_bounds.0 c.loop-i.invariant.2,
  below (c.requires.ends_in.end c.loop-i.i c.loop-i-test.true) c.link_end.ensures c.requires.nodes_in_bounds.0 c.loop-i.invariant.2,
)

pub loop-i-preserved : goal.loop-i-preserved
loop-i-preserved c = (
  omega arith,
  flows_next _ _ _ _ _ _ _ _ _ c.link_start.ensures c.link_end.ensures c.loop-i.invariant.1 c.move_flow.ensures,
  ap length c.move_flow.ensures ∙ shifted_long _ _ _ _ ∙ c.loop-i.invariant.2,
)

pub shape_of-excess : goal.shape_of-excess
shape_of-excess c = c.loop-i.invariant.2

pub returns : goal.returns
returns c =
    let e : c.loop-i.i ≡ c.args.l.links = omega arith in
    c.loop-i.invariant.1 ∙ ap (λ (k : ℕ). with_flows c.args.sheet.now c.args.l c.args.flows.now k c.args.excess.now) e
