-- Worked examples: the definitions compute. Assumes nothing.
use mathlib.Core.Path.{◌≡◌, refl}
use Prim.Native.Nat.{ℕ}
use lib.Count.{count_trailing_zeros}
use lib.Ieee.{Float, binary64, neg, add, sub, sum, mul, div, round, units, odd, size, span, climb, of_int, of_bits, of_fields, to_bits, is_nan}
use Rattle.tables.specs.Tables.{table_a, table_b, power_table}
use Rattle.tables.specs.Tables871.{table_a871, table_b871, power_table871}
use Rattle.power.specs.Power.{between, power_bits, power_by, power_of, power871}
use Rattle.damping.specs.Units.{factors, factor_of}
use Rattle.text_units.specs.declared.Units.{Units}
use Rattle.text_units.specs.Units.{units_of, feet_of, diameter_feet, pressure_feet, cubic_feet, resistance_of, first_flow}

abbrev bits : ℕ → Float
bits p = of_bits binary64 p

abbrev gpm : Units
gpm = units_of 1

abbrev lps : Units
lps = units_of 5

-- 310 m are 1017.06 ft; 200 mm are 0.656168 ft; 50 psi are 115.393 ft; 6.5 L/s are 0.229544 cfs
figures : (feet_of lps (bits 0x4073_6000_0000_0000) ≡ bits 0x408f_c87b_a1ee_87ba) × (diameter_feet lps (bits 0x4069_0000_0000_0000) ≡ bits 0x3fe4_ff53_fd4f_f540) × (pressure_feet gpm (bits 0x4049_0000_0000_0000) ≡ bits 0x405c_d92e_f842_a4d6) × (cubic_feet lps (bits 0x401a_0000_0000_0000) ≡ bits 0x3fcd_61b3_6408_7f82)
unfolding units_of factor_of factors feet_of diameter_feet pressure_feet cubic_feet div round units odd size span climb of_bits of_fields count_trailing_zeros
figures = (refl, refl, refl, refl)

-- a pipe of that length and diameter with C = 130 has a resistance of 4.55228 and starts with 0.338158 cfs
pipe : (resistance_of (bits 0x408f_c87b_a1ee_87ba) (bits 0x3fe4_ff53_fd4f_f540) (bits 0x4060_4000_0000_0000) ≡ bits 0x4012_3589_09c3_72cf) × (first_flow (bits 0x3fe4_ff53_fd4f_f540) ≡ bits 0x3fd5_a462_5ec0_7cc8)
unfolding resistance_of first_flow power_of power871 power_by power_bits between power_table table_a table_b power_table871 table_a871 table_b871 neg add sub sum mul div round units odd size span climb of_int of_bits of_fields count_trailing_zeros to_bits is_nan
pipe = (refl, refl)
