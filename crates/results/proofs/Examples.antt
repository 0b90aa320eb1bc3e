-- Worked examples: the definitions compute. Assumes nothing.
use mathlib.Core.Path.{◌≡◌, refl}
use mathlib.Core.List.{[], ◌∷◌}
use Prim.Native.Nat.{ℕ}
use lib.Count.{count_trailing_zeros}
use lib.Ieee.{Float, binary64, of_bits, of_fields, odd, to_bits, size, span, climb}
use Rattle.words.specs.Digits.{decimal_in, decimal_of, hex_digit, hex_in, hex_of}
use Rattle.words.specs.Words.{number_word, float_word}
use Rattle.results.specs.Lines.{node_line, link_line}

-- an f64 by its pattern
abbrev bits : ℕ → Float
bits p = of_bits binary64 p

-- "N 0 4059000000000000 0000000000000000\n": the head is 100, the demand 0
node : node_line 0 (bits 0x4059_0000_0000_0000) (bits 0) ≡ 78 ∷ 32 ∷ 48 ∷ 32 ∷ 52 ∷ 48 ∷ 53 ∷ 57 ∷ 48 ∷ 48 ∷ 48 ∷ 48 ∷ 48 ∷ 48 ∷ 48 ∷ 48 ∷ 48 ∷ 48 ∷ 48 ∷ 48 ∷ 32 ∷ 48 ∷ 48 ∷ 48 ∷ 48 ∷ 48 ∷ 48 ∷ 48 ∷ 48 ∷ 48 ∷ 48 ∷ 48 ∷ 48 ∷ 48 ∷ 48 ∷ 48 ∷ 48 ∷ 10 ∷ []
unfolding node_line number_word float_word decimal_of decimal_in hex_of hex_in hex_digit of_bits of_fields odd count_trailing_zeros to_bits size span climb
node = refl

-- "L 12 bff8000000000000 3\n": the flow is -1.5
link : link_line 12 (bits 0xbff8_0000_0000_0000) 3 ≡ 76 ∷ 32 ∷ 49 ∷ 50 ∷ 32 ∷ 98 ∷ 102 ∷ 102 ∷ 56 ∷ 48 ∷ 48 ∷ 48 ∷ 48 ∷ 48 ∷ 48 ∷ 48 ∷ 48 ∷ 48 ∷ 48 ∷ 48 ∷ 48 ∷ 32 ∷ 51 ∷ 10 ∷ []
unfolding link_line number_word float_word decimal_of decimal_in hex_of hex_in hex_digit of_bits of_fields odd count_trailing_zeros to_bits size span climb
link = refl
