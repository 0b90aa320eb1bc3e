-- `words::digits::put_hex` meets its contract. The invariant: with the digits that are left, the buffer has them all. Assumes nothing.
use native.Mathlib.Omega.{arith}
use Prim.Native.Nat.{◌+◌, ◌≤◌}
use mathlib.Core.Path.{◌≡◌, refl, ◌∙◌}
use lib.ListN.{length, length-set}
use Rattle.words.specs.Buffer.{placed}
use Rattle.words.specs.Digits.{hex_in, hex_of}
use Rattle.words.proofs.DigitLaws.{hex_length, hex_turn, hex_end}
use Rattle.words.proofs.digits.put_hex.Given as goal

abbrev pub invariant-loop-k : goal.invariant-loop-k
invariant-loop-k l = (l.k ≤ 16) × (l.p + l.k ≡ l.at + 16) × (length l.out ≡ length l.initial.out) × (placed l.out l.p (hex_in l.k l.n) ≡ placed l.initial.out l.at (hex_of l.n))

abbrev pub decreases-loop-k : goal.decreases-loop-k
decreases-loop-k l = l.k
