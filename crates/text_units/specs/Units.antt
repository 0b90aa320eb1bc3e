-- The figures of an EPANET text in feet and cubic feet per second, by the Rust's operations in its order. Definitions only.
use Rattle.std.specs.Prelude.{ℕ, cond, List, [], ◌∷◌, leb, Float}
use Rattle.std.specs.Float.{binary64}
use Rattle.std.specs.Float.Ieee.{of_bits}
use Rattle.constants.specs.Arithmetic.{times, over}
use Rattle.constants.specs.Constants.{quarter, one, Decimal, decimal}
use Rattle.damping.specs.Units.{factor_of}
use Rattle.power.specs.Power.{power_of, power871}
use Rattle.text_units.specs.declared.Units.{Units}

-- ---- constants.rs; 4.727 has no name in pipe.rs, and pi is Rust's

abbrev pub m_per_ft : Float
m_per_ft = of_bits binary64 0x3fd3_81d7_dbf4_87fd

abbrev pub psi_per_ft : Float
psi_per_ft = of_bits binary64 0x3fdb_bb2f_ec56_d5d0

abbrev pub inches_per_ft : Float
inches_per_ft = of_bits binary64 0x4028_0000_0000_0000

abbrev pub millimetres_per_metre : Float
millimetres_per_metre = of_bits binary64 0x408f_4000_0000_0000

abbrev pub hazen_williams : Float
hazen_williams = of_bits binary64 0x4012_e872_b020_c49c

abbrev pub pi : Float
pi = of_bits binary64 0x4009_21fb_5444_2d18

-- proofs/Decimals.antt shows that each is the f64 nearest to its decimal
unfoldable pub decimals : List Decimal
decimals =
    decimal 3_048 10_000 m_per_ft
    ∷ decimal 4_333 10_000 psi_per_ft
    ∷ decimal 12 1 inches_per_ft
    ∷ decimal 1_000 1 millimetres_per_metre
    ∷ decimal 4_727 1_000 hazen_williams
    ∷ decimal 314_159_265_358_979_323_846_264_338_327_950_288 100_000_000_000_000_000_000_000_000_000_000_000 pi
    ∷ []

-- ---- figures

-- metric from LPS, code 5, on
unfoldable pub units_of : ℕ → Units
units_of unit = record { metric = leb 5 unit; factor = factor_of unit }

-- elevations, heads, levels and lengths: metres or feet
unfoldable pub feet_of : Units → Float → Float
feet_of u x = cond u.metric (over x m_per_ft) x

-- diameters: millimetres or inches
unfoldable pub diameter_feet : Units → Float → Float
diameter_feet u x = cond u.metric (over (over x millimetres_per_metre) m_per_ft) (over x inches_per_ft)

-- pressures: metres or psi
unfoldable pub pressure_feet : Units → Float → Float
pressure_feet u x = cond u.metric (over x m_per_ft) (over x psi_per_ft)

unfoldable pub cubic_feet : Units → Float → Float
cubic_feet u x = over x u.factor

-- ---- what pipe.rs and link.rs make of them

abbrev pub fourth : Float → Float
fourth d = times (times d d) (times d d)

-- Hazen-Williams with C ^ 1.852 as C * C ^ 0.852 and d ^ 4.871 as d ^ 4 * d ^ 0.871; length and diameter are in feet
unfoldable pub resistance_of : Float → Float → Float → Float
resistance_of length d c =
    times (times (times hazen_williams (over one (times c (power_of c)))) (over one (times (fourth d) (power871 d)))) length

-- a link's area
unfoldable pub first_flow : Float → Float
first_flow d = times (times quarter pi) (times d d)
