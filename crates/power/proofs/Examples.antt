-- Worked examples: the definitions compute. Assumes nothing.
use mathlib.Core.Path.{◌≡◌, refl}
use Prim.Native.Nat.{ℕ}
use lib.Count.{count_trailing_zeros}
use lib.Ieee.{Float, nan, binary64, neg, add, sub, sum, mul, round, units, odd, size, span, climb, of_int, of_bits, of_fields, to_bits, is_nan}
use Rattle.tables.specs.Tables.{table_a, table_b, power_table}
use Rattle.tables.specs.Tables871.{table_a871, table_b871, power_table871}
use Rattle.power.specs.Power.{between, power_bits, power_by, power_of, power871}

abbrev bits : ℕ → Float
bits p = of_bits binary64 p

-- 1 gives 1; 3 gives 2.5498; 2 ^ -64 gives the last entry of B; -0.0 gives +0.0; the f64 just below zero gives NaN
powers : (power_of (bits 0x3ff0_0000_0000_0000) ≡ bits 0x3ff0_0000_0000_0000) × (power_of (bits 0x4008_0000_0000_0000) ≡ bits 0x4004_6601_3659_56c9) × (power_of (bits 0x3bf0_0000_0000_0000) ≡ bits 0x3c86_3147_62af_55f4) × (power_of (bits 0x8000_0000_0000_0000) ≡ bits 0) × (power_of (bits 0x8000_0000_0000_0001) ≡ nan)
unfolding power_of power_by power_bits between power_table table_a table_b neg add sub sum mul round units odd size span climb of_int of_bits of_fields count_trailing_zeros to_bits is_nan
powers = (refl, refl, refl, refl, refl)

-- for 0.871: 1 gives 1; 3 gives 2.6036; 0.6, which is between two steps, gives 0.6409; 2 ^ -64 gives the last entry of B; -0.0 gives +0.0
powers_871 : (power871 (bits 0x3ff0_0000_0000_0000) ≡ bits 0x3ff0_0000_0000_0000) × (power871 (bits 0x4008_0000_0000_0000) ≡ bits 0x4004_d427_0cf7_2c2b) × (power871 (bits 0x3fe3_3333_3333_3333) ≡ bits 0x3fe4_8201_2a74_6cab) × (power871 (bits 0x3bf0_0000_0000_0000) ≡ bits 0x3c73_1b4a_dba9_28ed) × (power871 (bits 0x8000_0000_0000_0000) ≡ bits 0)
unfolding power871 power_by power_bits between power_table871 table_a871 table_b871 neg add sub sum mul round units odd size span climb of_int of_bits of_fields count_trailing_zeros to_bits is_nan
powers_871 = (refl, refl, refl, refl, refl)
