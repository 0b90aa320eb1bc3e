-- Worked examples: the definitions compute. Assumes nothing.
use mathlib.Core.Path.{◌≡◌, refl}
use mathlib.Core.Bool.{false}
use mathlib.Core.List.{[], ◌∷◌}
use lib.Count.{count_trailing_zeros}
use lib.IntN.{negsuc}
use lib.Ieee.{nan, fin, odd, of_bits, of_fields}
use Rattle.patterns.specs.Bytes.{little_endian, from_bytes}

-- the last eight of nine bytes are those of 1.5; a pattern of a NaN is NaN
floats : (from_bytes (7 ∷ 0 ∷ 0 ∷ 0 ∷ 0 ∷ 0 ∷ 0 ∷ 0xf8 ∷ 0x3f ∷ []) 1 ≡ fin false 3 (negsuc 0)) × (from_bytes (1 ∷ 0 ∷ 0 ∷ 0 ∷ 0 ∷ 0 ∷ 0xf0 ∷ 0xff ∷ []) 0 ≡ nan)
unfolding from_bytes little_endian of_bits of_fields odd count_trailing_zeros
floats = (refl, refl)
