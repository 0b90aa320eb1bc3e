-- The words of a line as ASCII bytes. Definitions only.
use Rattle.std.specs.Prelude.{ℕ, List, [], ◌∷◌, Float}
use Rattle.std.specs.Float.{binary64}
use Rattle.std.specs.Float.Ieee.{to_bits}
use Rattle.words.specs.Digits.{decimal_of, hex_of}

-- " 17", and " 4031000000000000": a space, then a number or the bits of a float
unfoldable pub number_word : ℕ → List ℕ
number_word n = 32 ∷ decimal_of n

unfoldable pub float_word : Float → List ℕ
float_word x = 32 ∷ hex_of (to_bits binary64 x)

abbrev pub newline : List ℕ
newline = 10 ∷ []
