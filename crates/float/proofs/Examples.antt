-- Worked examples: the definitions compute. Assumes nothing.
use mathlib.Core.Path.{◌≡◌, refl}
use mathlib.Core.Bool.{true, false}
use Prim.Native.Nat.{ℕ}
use lib.Count.{count_trailing_zeros}
use lib.IntN.{pos}
use lib.Ieee.{Float, nan, inf, fin, binary64, lt, le, eq, mul, round, units, odd, size, span, climb, of_bits, of_fields, is_nan}
use Rattle.float.specs.Sign.{abs_of, signum_of}
use Rattle.float.specs.Order.{larger_of, smaller_of, clamp_of, wild_of}
use Rattle.float.specs.WholePower.{least, squared, power_in, whole_power}

-- an f64 by its pattern
abbrev bits : ℕ → Float
bits p = of_bits binary64 p

-- signum of -0.0 is -1, of +0.0 it is 1
signs : (signum_of (bits 0x8000_0000_0000_0000) ≡ bits 0xbff0_0000_0000_0000) × (signum_of (bits 0) ≡ bits 0x3ff0_0000_0000_0000) × (abs_of (bits 0x8000_0000_0000_0000) ≡ bits 0)
unfolding signum_of abs_of of_bits of_fields odd count_trailing_zeros
signs = (refl, refl, refl)

-- a NaN gives way in max and min, and stays in clamp
orders : (larger_of nan (bits 0) ≡ bits 0) × (smaller_of (bits 0) nan ≡ bits 0) × (clamp_of nan (bits 0) (bits 1) ≡ nan) × (larger_of (bits 0) (bits 1) ≡ bits 1)
unfolding larger_of smaller_of clamp_of lt is_nan of_bits of_fields odd count_trailing_zeros
orders = (refl, refl, refl, refl)

-- 2 ^ 64 is wild, the f64 before it is not
limits : (wild_of (bits 0x43f0_0000_0000_0000) ≡ true) × (wild_of (bits 0x43ef_ffff_ffff_ffff) ≡ false) × (wild_of (inf true) ≡ true)
unfolding wild_of le lt eq of_bits of_fields odd count_trailing_zeros
limits = (refl, refl, refl)

-- 3 ^ 0, 3 ^ 1, 3 ^ 4 and 3 ^ 5
powers : (whole_power (bits 0x4008_0000_0000_0000) 0 ≡ fin false 1 (pos 0)) × (whole_power (bits 0x4008_0000_0000_0000) 1 ≡ fin false 3 (pos 0)) × (whole_power (bits 0x4008_0000_0000_0000) 4 ≡ fin false 81 (pos 0)) × (whole_power (bits 0x4008_0000_0000_0000) 5 ≡ fin false 243 (pos 0))
unfolding whole_power power_in least squared mul round units odd size span climb of_bits of_fields count_trailing_zeros
powers = (refl, refl, refl, refl)
