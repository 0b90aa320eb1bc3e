-- `words::digits::put_hex` meets its contract. The invariant: with the digits that are left, the buffer has them all. Assumes nothing.
use native.Mathlib.Omega.{arith}
use Prim.Native.Nat.{◌+◌, ◌≤◌}
use mathlib.Core.Path.{◌≡◌, refl, ◌∙◌}
use lib.ListN.{length, length-set}
use Rattle.words.specs.Buffer.{placed}
use Rattle.words.specs.Digits.{hex_in, hex_of}
use Rattle.words.proofs.DigitLaws.{hex_length, hex_turn, hex_end}
use Rattle.words.proofs.digits.put_hex.Goals as goal

pub loop-k-init : goal.loop-k-init
unfolding hex_of
loop-k-init c = (omega arith, refl, refl, refl)

pub loop-k-preserved : goal.loop-k-preserved
loop-k-preserved c = (omega arith, omega arith, simp length-set c.loop-k.invariant.2, hex_turn _ c.loop-k.k c.loop-k.out c.loop-k.p _ (omega arith) c.hex_digit.ensures ∙ c.loop-k.invariant.3)

pub returns : goal.returns
returns c = record { bytes = hex_end c.args.n c.loop-k.k _ c.loop-k.p (omega arith) ∙ c.loop-k.invariant.3; next = omega (arith, hex_length c.args.n) }
