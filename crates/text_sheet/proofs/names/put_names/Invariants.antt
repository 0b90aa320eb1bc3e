-- `text_sheet::names::put_names` meets its contract. The invariant: the first i names are put. Assumes nothing.
use Rattle.std.proofs.Common.{◌≤◌, length, take}
use Rattle.words.specs.Buffer.{Put}
use Rattle.text_sheet.specs.Sheet.{names_bytes}
use Rattle.text_sheet.proofs.names.put_names.Given as goal

abbrev pub invariant-loop-i : goal.invariant-loop-i
invariant-loop-i l = (l.i ≤ length l.names.lines) × Put l.initial.out l.at (names_bytes (take l.i l.names.lines)) l.out l.end
