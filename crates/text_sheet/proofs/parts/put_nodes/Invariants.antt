-- `text_sheet::parts::put_nodes` meets its contract. The invariant: the first i nodes are put. Assumes nothing.
use Rattle.std.proofs.Common.{◌≤◌, length, take}
use Rattle.words.specs.Buffer.{Put}
use Rattle.text_sheet.specs.Sheet.{nodes_bytes}
use Rattle.text_sheet.proofs.parts.put_nodes.Given as goal

abbrev pub invariant-loop-i : goal.invariant-loop-i
invariant-loop-i l = (l.i ≤ length l.nodes.lines) × Put l.initial.sheet l.at (nodes_bytes l.o (take l.i l.nodes.lines)) l.sheet l.end
