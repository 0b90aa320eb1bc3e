-- `sheet_bytes::put_number` meets its contract. The invariant: with the bytes that are left, the buffer has them all. Assumes nothing.
use native.Mathlib.Omega.{arith}
use Prim.Native.Nat.{◌+◌, ◌-◌, ◌≤◌}
use mathlib.Core.Path.{◌≡◌, refl}
use lib.ListN.{length, length-set}
use Rattle.words.specs.Buffer.{placed}
use Rattle.sheet_bytes.specs.Bytes.{number_bytes}
use Rattle.sheet_bytes.proofs.Laws.{number_none, number_next, number_all}
use Rattle.sheet_bytes.proofs.Lengths.{number_length}
use Rattle.sheet_bytes.proofs.put_number.Given as goal

abbrev pub invariant-loop-i : goal.invariant-loop-i
invariant-loop-i l = (l.i ≤ l.count) × (length l.out ≡ length l.initial.out) × (placed l.out (l.at + l.i) (number_bytes (l.count - l.i) l.left) ≡ placed l.initial.out l.at (number_bytes l.count l.number))

abbrev pub decreases-loop-i : goal.decreases-loop-i
decreases-loop-i l = l.count - l.i
