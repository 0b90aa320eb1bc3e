-- `state::start_nodes` meets its contract. Assumes nothing.
use Rattle.state.proofs.Turns.{no_nodes, next_node}
use Rattle.state.specs.State.{heads_from, demands_from}
use native.Mathlib.Omega.{arith}
use Prim.Native.Nat.{ℕ}
use mathlib.Core.Path.{◌≡◌, ap, ◌∙◌}
use Rattle.state.proofs.start_nodes.Goals as goal

pub loop-i-init : goal.loop-i-init
loop-i-init c = no_nodes _ _ _ _

pub node-n-requires-clause-laid : goal.node-n-requires-clause-laid
node-n-requires-clause-laid c = c.requires.laid

pub node-n-requires-clause-i_lt_nodes : goal.node-n-requires-clause-i_lt_nodes
node-n-requires-clause-i_lt_nodes c = c.loop-i-test.true

pub loop-i-preserved : goal.loop-i-preserved
loop-i-preserved c = next_node _ _ _ _ _ _ _ c.loop-i.invariant c.loop-i-test.true _ c.node-n.ensures

pub shape_of-heads : goal.shape_of-heads
shape_of-heads c = c.loop-i.invariant.heads_kept

pub shape_of-demands : goal.shape_of-demands
shape_of-demands c = c.loop-i.invariant.demands_kept

pub returns-clause-heads : goal.returns-clause-heads
returns-clause-heads c =
    let e : c.loop-i.i ≡ c.args.l.nodes = omega (arith, c.loop-i.invariant.upto, c.loop-i-test.false) in
    c.loop-i.invariant.heads ∙ ap (λ (k : ℕ). heads_from c.args.sheet.now c.args.l k c.args.heads.now) e

pub returns-clause-demands : goal.returns-clause-demands
returns-clause-demands c =
    let e : c.loop-i.i ≡ c.args.l.nodes = omega (arith, c.loop-i.invariant.upto, c.loop-i-test.false) in
    c.loop-i.invariant.demands ∙ ap (λ (k : ℕ). demands_from c.args.sheet.now c.args.l k c.args.demands.now) e
