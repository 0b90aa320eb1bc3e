-- Worked examples: the definition computes. Assumes nothing.
use mathlib.Core.Path.{◌≡◌, refl}
use mathlib.Core.Bool.{true, false}
use Prim.Native.Nat.{ℕ}
use lib.Count.{count_trailing_zeros}
use lib.Ieee.{Float, nan, inf, binary64, lt, le, eq, of_bits, of_fields, odd}
use Rattle.float.specs.Sign.{abs_of}
use Rattle.tolerance.specs.Within.{within_of}

-- an f64 by its pattern
abbrev bits : ℕ → Float
bits p = of_bits binary64 p

-- -1 is within 1 and not within the f64 before it; -0.0 is within +0.0, and +0.0 within -0.0; what is infinite is within infinity alone
examples : (within_of (bits 0xbff0_0000_0000_0000) (bits 0x3ff0_0000_0000_0000) ≡ true) × (within_of (bits 0xbff0_0000_0000_0000) (bits 0x3fef_ffff_ffff_ffff) ≡ false) × (within_of (bits 0x8000_0000_0000_0000) (bits 0) ≡ true) × (within_of (bits 0) (bits 0x8000_0000_0000_0000) ≡ true) × (within_of (inf true) (inf false) ≡ true) × (within_of (inf true) (bits 0x7fef_ffff_ffff_ffff) ≡ false)
unfolding within_of abs_of le lt eq of_bits of_fields odd count_trailing_zeros
examples = (refl, refl, refl, refl, refl, refl)
