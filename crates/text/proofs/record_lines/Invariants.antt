-- `text::record_lines` meets its contract. The invariant: the first i lines stand in the buffer. Assumes nothing.
use native.Mathlib.Omega.{arith}
use Prim.Native.Nat.{◌+◌, ◌*◌, ◌-◌, ◌≤◌}
use mathlib.Core.Path.{◌≡◌, refl}
use lib.ListN.{length}
use Rattle.words.specs.Buffer.{Put}
use Rattle.text.specs.Lines.{record_line, record_lines}
use Rattle.words.proofs.Laws.{then}
use Rattle.text.proofs.LineLaws.{no_records, record_turn}
use Rattle.text.proofs.record_lines.Given as goal

abbrev pub invariant-loop-i : goal.invariant-loop-i
invariant-loop-i l =
    (l.i ≤ l.count) × (length l.out ≡ length l.initial.out) × (l.p ≤ l.at + 128 * l.i) × Put l.initial.out l.at (record_lines l.entries l.i) l.out l.p

abbrev pub decreases-loop-i : goal.decreases-loop-i
decreases-loop-i l = l.count - l.i
