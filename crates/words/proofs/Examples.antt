-- Worked examples: the definitions compute. Assumes nothing.
use mathlib.Core.Path.{◌≡◌, refl}
use mathlib.Core.List.{[], ◌∷◌}
use Rattle.words.specs.Buffer.{placed}
use Rattle.words.specs.Digits.{decimal_in, decimal_of}

-- the largest number of 64 bits has 20 digits
largest : decimal_of 18446744073709551615 ≡ 49 ∷ 56 ∷ 52 ∷ 52 ∷ 54 ∷ 55 ∷ 52 ∷ 52 ∷ 48 ∷ 55 ∷ 51 ∷ 55 ∷ 48 ∷ 57 ∷ 53 ∷ 53 ∷ 49 ∷ 54 ∷ 49 ∷ 53 ∷ []
unfolding decimal_of decimal_in
largest = refl

-- two bytes put at 1 into five zeros
put : placed (0 ∷ 0 ∷ 0 ∷ 0 ∷ 0 ∷ []) 1 (7 ∷ 8 ∷ []) ≡ 0 ∷ 7 ∷ 8 ∷ 0 ∷ 0 ∷ []
unfolding placed
put = refl
