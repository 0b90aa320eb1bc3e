-- `text_sheet::parts::put_nodes` meets its contract. The invariant: the first i nodes are put. Assumes nothing.
use Rattle.std.proofs.Common.{arith}
use Rattle.text_sheet.proofs.Laws.{put_length, nodes_none, nodes_turn, nodes_end}
use Rattle.text_sheet.proofs.parts.put_nodes.Goals as goal

pub loop-i-init : goal.loop-i-init
loop-i-init c = (omega arith, nodes_none _ _ _)

pub put_node-end-requires : goal.put_node-end-requires
put_node-end-requires c = omega (arith, c.requires, c.loop-i-test.true, c.len-i-end.ensures.lines, nodes_end _ _ _ c.loop-i.invariant.0 c.loop-i.invariant.1, put_length c.loop-i.invariant.1)

pub loop-i-preserved : goal.loop-i-preserved
loop-i-preserved c =
    (omega (arith, c.loop-i-test.true, c.len-i-end.ensures.lines), nodes_turn _ _ (omega (arith, c.loop-i-test.true, c.len-i-end.ensures.lines)) _ _ (rw (c.node_record-node.ensures, c.words.ensures, c.kind.ensures, c.units_of-u.ensures)) c.loop-i.invariant.1 c.put_node-end.ensures.put)
