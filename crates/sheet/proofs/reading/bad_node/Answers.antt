-- `sheet::reading::bad_node` meets its contract: what is left to search answers for the whole. Assumes nothing.
use mathlib.Core.Path.{◌≡◌, ap, ◌∙◌}
use Prim.Native.Nat.{ℕ, ◌+◌, ◌-◌, ◌≤◌}
use native.Mathlib.Omega.{arith}
use Rattle.layout.specs.Places.{node_place}
use Rattle.layout.proofs.Laws.{node_within}
use Rattle.fields.specs.Fields.{node_good}
use Rattle.sheet.specs.Read.{first_bad, bad_node}
use Rattle.sheet.proofs.Laws.{search_end, search-bad, search-on}
use mathlib.Core.Bool.{not}
use Rattle.sheet.proofs.reading.bad_node.Goals as goal

pub loop-i-init : goal.loop-i-init
unfolding bad_node
loop-i-init c =
    let e : c.args.l.nodes - 0 ≡ c.args.l.nodes = omega arith in
    let z : c.args.l.node0 + 0 ≡ c.args.l.node0 = omega arith in
    (ap (λ (k : ℕ). first_bad (node_good c.args.b c.args.sheet.now) 45 k (c.args.l.node0 + 0)) e ∙ ap (first_bad (node_good c.args.b c.args.sheet.now) 45 c.args.l.nodes) z, omega arith)

pub node_place-at-requires : goal.node_place-at-requires
node_place-at-requires c = omega (arith, node_within _ _ _ c.requires c.loop-i-test.true)

pub node_good-requires : goal.node_good-requires
node_good-requires c = omega (arith, c.node_place-at.ensures, node_within _ _ _ c.requires c.loop-i-test.true)

pub returns-then-not-node_good : goal.returns-then-not-node_good
returns-then-not-node_good c = search-bad (node_good c.args.b c.args.sheet.now) 45 c.args.l.nodes c.loop-i.i (node_place c.args.l c.loop-i.i) _ c.loop-i.invariant.0 _ _ c.node_place-at.ensures c.node_good.ensures c.loop-i-test.true (ap not c.if-not-node_good.true)

pub loop-i-preserved : goal.loop-i-preserved
loop-i-preserved c = (search-on (node_good c.args.b c.args.sheet.now) 45 c.args.l.nodes c.loop-i.i (node_place c.args.l c.loop-i.i) _ c.loop-i.invariant.0 _ _ c.node_place-at.ensures c.node_good.ensures c.loop-i-test.true _ (ap not c.if-not-node_good.false) (omega arith), omega arith)

pub returns : goal.returns
returns c = search_end (node_good c.args.b c.args.sheet.now) 45 c.args.l.nodes c.loop-i.i (node_place c.args.l c.loop-i.i) _ c.loop-i.invariant.0 c.loop-i-test.false
