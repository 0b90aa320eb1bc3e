-- `text_sheet::parts::put_links` meets its contract. The invariant: the first j links are put. Assumes nothing.
use Rattle.std.proofs.Common.{◌≤◌, length, take}
use Rattle.words.specs.Buffer.{Put}
use Rattle.text_sheet.specs.Sheet.{links_bytes}
use Rattle.text_sheet.proofs.parts.put_links.Given as goal

abbrev pub invariant-loop-j : goal.invariant-loop-j
invariant-loop-j l = (l.j ≤ length l.links.lines) × Put l.initial.sheet l.at (links_bytes l.fn.o l.nodes.lines (take l.j l.links.lines)) l.sheet l.end
