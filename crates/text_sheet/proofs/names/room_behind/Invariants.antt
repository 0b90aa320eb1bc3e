-- `text_sheet::names::room_behind` meets its contract. The invariant: what is left and the first i names make the room. Assumes nothing.
use Rattle.std.proofs.Common.{◌≡◌, ◌+◌, ◌≤◌, length, take}
use Rattle.text_sheet.specs.Sheet.{names_bytes}
use Rattle.text_sheet.proofs.names.room_behind.Given as goal

abbrev pub invariant-loop-i : goal.invariant-loop-i
invariant-loop-i l = (l.i ≤ length l.names.lines) × (l.left + length (names_bytes (take l.i l.names.lines)) ≡ l.room)
