-- A worked example: the definitions compute. Assumes nothing.
use Prim.Native.Nat.{ℕ}
use mathlib.Core.Path.{◌≡◌, refl}
use mathlib.Core.List.{List, [], ◌∷◌}
use lib.Count.{count_trailing_zeros}
use lib.ListN.{replicate, set}
use lib.Ieee.{Float, nan, binary64, of_bits, of_fields, add, sub, mul, div, round, units, odd, size, span, climb}
use Rattle.substitution.specs.Substitution.{before, forward, after, back, solved}

-- an f64 by its pattern
abbrev bits : ℕ → Float
bits p = of_bits binary64 p

-- two columns: 2 and 1, and 2
abbrev half : List Float
half = set (set (set (replicate 66 (bits 0)) 0 (bits 0x4000_0000_0000_0000)) 1 (bits 0x3ff0_0000_0000_0000)) 65 (bits 0x4000_0000_0000_0000)

-- 8 and 12 give 1 and 2; the third number is not touched
solves : solved half 2 (bits 0x4020_0000_0000_0000 ∷ bits 0x4028_0000_0000_0000 ∷ nan ∷ []) ≡ bits 0x3ff0_0000_0000_0000 ∷ bits 0x4000_0000_0000_0000 ∷ nan ∷ []
unfolding solved forward before back after sub add mul div round units odd size span climb of_bits of_fields count_trailing_zeros
solves = refl
