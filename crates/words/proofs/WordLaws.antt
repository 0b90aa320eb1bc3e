-- How long a word is. Assumes nothing.
use Prim.Native.Nat.{ℕ, ◌≤◌}
use mathlib.Core.Path.{◌≡◌}
use native.Mathlib.Omega.{arith}
use lib.ListN.{length}
use lib.Ieee.{Float, binary64, to_bits}
use Rattle.words.specs.Words.{number_word, float_word}
use Rattle.words.proofs.DigitLaws.{decimal_length, hex_length}

pub number_length : (n : ℕ) → length (number_word n) ≤ 21
unfolding number_word
number_length n = omega (arith, decimal_length n)

pub float_length : (x : Float) → length (float_word x) ≡ 17
unfolding float_word
float_length x = omega (arith, hex_length (to_bits binary64 x))
