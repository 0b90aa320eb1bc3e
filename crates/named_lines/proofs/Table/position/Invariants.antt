-- `named_lines::Table::position` meets its contract: none of the first i lines has the name. Assumes nothing.
use Rattle.std.proofs.Common.{◌≡◌, ◌≤◌, length, take}
use Rattle.named_lines.specs.Named.{position_of}
use Rattle.named_lines.proofs.Table.position.Given as goal

abbrev pub invariant-loop-i : goal.invariant-loop-i
invariant-loop-i l = (l.i ≤ length l.self.lines) × (position_of l.word (take l.i l.self.lines) ≡ l.i)
