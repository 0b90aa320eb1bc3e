-- `sheet_bytes::put_text` meets its contract. The invariant: with the bytes that are left, the buffer has them all. Assumes nothing.
use native.Mathlib.Omega.{arith}
use Prim.Native.Nat.{◌+◌, ◌-◌, ◌≤◌}
use mathlib.Core.Path.{◌≡◌, refl}
use lib.ListN.{length, drop, length-set}
use Rattle.words.specs.Buffer.{placed}
use Rattle.sheet_bytes.proofs.Laws.{text_none, text_next, text_all}
use Rattle.sheet_bytes.proofs.put_text.Given as goal

abbrev pub invariant-loop-i : goal.invariant-loop-i
invariant-loop-i l = (l.i ≤ length l.text) × (length l.out ≡ length l.initial.out) × (placed l.out (l.at + l.i) (drop l.i l.text) ≡ placed l.initial.out l.at l.text)

abbrev pub decreases-loop-i : goal.decreases-loop-i
decreases-loop-i l = length l.text - l.i
