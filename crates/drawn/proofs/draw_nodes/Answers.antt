-- `drawn::draw_nodes` meets its contract. Assumes nothing.
use Rattle.drawn.specs.Drawn.{draws}
use Rattle.drawn.proofs.Laws.{Drawn, none_drawn, next_drawn, drawn_whole}
use borrow.Author.Rules.{rules}
use native.Mathlib.Omega.{arith}
use Prim.Native.Nat.{ℕ, suc, ◌+◌, ◌*◌, ◌-◌, ◌≤◌, ◌<◌}
use mathlib.Core.Path.{◌≡◌}
use native.Mathlib.Numerals.{add-one}
use lib.ListN.{length, get_or, set, length-set}
use Rattle.drawn.proofs.draw_nodes.Goals as goal

pub loop-i-init : goal.loop-i-init
loop-i-init c = none_drawn _ _ _ _ _ _ _ _

pub draw_node-moved-requires-clause-laid : goal.draw_node-moved-requires-clause-laid
draw_node-moved-requires-clause-laid c = c.requires.laid

pub draw_node-moved-requires-clause-i_lt_nodes : goal.draw_node-moved-requires-clause-i_lt_nodes
draw_node-moved-requires-clause-i_lt_nodes c = c.loop-i-test.true

pub draw_node-moved-requires-clause-nodes_in_bounds : goal.draw_node-moved-requires-clause-nodes_in_bounds
draw_node-moved-requires-clause-nodes_in_bounds c = (c.requires.nodes_in_bounds.0, (c.requires.nodes_in_bounds.1.0, omega (arith, c.requires.nodes_in_bounds.1.1, c.loop-i.invariant.long)))

pub loop-i-preserved : goal.loop-i-preserved
loop-i-preserved c = next_drawn _ _ _ _ _ _ _ _ _ _ _ _ _ c.loop-i.invariant c.loop-i-test.true c.draw_node-moved.ensures (omega (arith, c.draw_node-moved.auto.drawn))

pub shape_of-drawn : goal.shape_of-drawn
shape_of-drawn c = c.loop-i.invariant.long

pub returns : goal.returns
returns c =
    let e : c.loop-i.i ≡ c.args.l.nodes = omega (arith, c.loop-i.invariant.upto, c.loop-i-test.false) in
    drawn_whole _ _ _ _ _ _ _ (draws c.args.drawn.now c.args.stats) _ e c.loop-i.invariant.made
