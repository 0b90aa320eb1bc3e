-- `words::words::put_float` meets its contract. Assumes nothing.
use native.Mathlib.Omega.{arith}
use borrow.Author.Rules.{rules}
use Prim.Native.Nat.{ℕ, ◌+◌}
use mathlib.Core.Path.{◌≡◌, ◌∙◌}
use mathlib.Core.List.{List}
use lib.ListN.{set, length-set}
use lib.Ieee.{Float, binary64, to_bits}
use Rattle.words.specs.Buffer.{Put}
use Rattle.words.specs.Digits.{hex_of}
use Rattle.words.specs.Words.{float_word}
use Rattle.words.proofs.Laws.{byte, then}
use Rattle.words.proofs.DigitLaws.{hex_length}
use Rattle.words.proofs.words.put_float.Goals as goal

word : (out new : List ℕ) (at r n : ℕ) (x : Float) → n ≡ to_bits binary64 x → Put (set out at 32) (at + 1) (hex_of n) new r → Put out at (float_word x) new r
unfolding float_word
word out new at r n x e h = rw (← e) (then (byte out at 32) h)

pub put_hex-requires : goal.put_hex-requires
put_hex-requires c = simp length-set (omega arith)

pub shape_of-out : goal.shape_of-out
shape_of-out c = c.put_hex.auto.out ∙ simp length-set

pub returns-clause-put : goal.returns-clause-put
returns-clause-put c = word _ _ _ _ _ _ c.pattern.ensures c.put_hex.ensures

pub returns-clause-upper_bound : goal.returns-clause-upper_bound
returns-clause-upper_bound c = omega (arith, hex_length c.pattern.result)
