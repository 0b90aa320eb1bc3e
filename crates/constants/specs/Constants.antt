-- constants.rs and the other numbers of the rules, as f64 bit patterns, and the decimals that they stand for. Definitions only.
use Rattle.std.specs.Prelude.{ℕ, List, [], ◌∷◌, Float}
use Rattle.std.specs.Float.{binary64}
use Rattle.std.specs.Float.Ieee.{of_bits, to_bits}
use Rattle.nearest.specs.Nearest.{Nearest}

abbrev pub q_zero : Float
q_zero = of_bits binary64 0x3eb0_c6f7_a0b5_ed8d

abbrev pub small_value : Float
small_value = of_bits binary64 0x3eb0_c6f7_a0b5_ed8d

abbrev pub cv_head_epsilon : Float
cv_head_epsilon = of_bits binary64 0x3eb0_c6f7_a0b5_ed8d

abbrev pub big_value : Float
big_value = of_bits binary64 0x4197_d784_0000_0000

abbrev pub rq_tol : Float
rq_tol = of_bits binary64 0x3e7a_d7f2_9abc_af48

abbrev pub pda_min_diff : Float
pda_min_diff = of_bits binary64 0x3fb9_9999_9999_999a

abbrev pub q_tol : Float
q_tol = of_bits binary64 0x3f1a_36e2_eb1c_432d

abbrev pub h_tol : Float
h_tol = of_bits binary64 0x3f40_624d_d2f1_a9fc

-- pipe.rs
abbrev pub h_exponent : Float
h_exponent = of_bits binary64 0x3ffd_a1ca_c083_126f

-- valve.rs, where it has no name
abbrev pub loss_factor : Float
loss_factor = of_bits binary64 0x3f99_c62a_1b5c_7cd9

abbrev pub gpm_per_cfs : Float
gpm_per_cfs = of_bits binary64 0x407c_0d4b_c6a7_ef9e

abbrev pub mgd_per_cfs : Float
mgd_per_cfs = of_bits binary64 0x3fe4_aea7_47d8_05e6

abbrev pub imgd_per_cfs : Float
imgd_per_cfs = of_bits binary64 0x3fe1_38ef_34d6_a162

abbrev pub afd_per_cfs : Float
afd_per_cfs = of_bits binary64 0x3fff_bd3c_3611_3405

abbrev pub lps_per_cfs : Float
lps_per_cfs = of_bits binary64 0x403c_5126_e978_d4fe

abbrev pub lpm_per_cfs : Float
lpm_per_cfs = of_bits binary64 0x409a_8c00_0000_0000

abbrev pub mld_per_cfs : Float
mld_per_cfs = of_bits binary64 0x4003_92a3_0553_2618

abbrev pub cms_per_cfs : Float
cms_per_cfs = of_bits binary64 0x3f9c_ff21_b3ae_ee95

abbrev pub cmh_per_cfs : Float
cmh_per_cfs = of_bits binary64 0x4059_7c28_f5c2_8f5c

abbrev pub cmd_per_cfs : Float
cmd_per_cfs = of_bits binary64 0x40a3_1d33_3333_3333

-- ---- numbers without a name

abbrev pub zero : Float
zero = of_bits binary64 0

abbrev pub quarter : Float
quarter = of_bits binary64 0x3fd0_0000_0000_0000

abbrev pub half : Float
half = of_bits binary64 0x3fe0_0000_0000_0000

abbrev pub one : Float
one = of_bits binary64 0x3ff0_0000_0000_0000

abbrev pub six_fifths : Float
six_fifths = of_bits binary64 0x3ff3_3333_3333_3333

abbrev pub two : Float
two = of_bits binary64 0x4000_0000_0000_0000

abbrev pub hundred : Float
hundred = of_bits binary64 0x4059_0000_0000_0000

-- ---- numbers of the bench cases

abbrev pub hundredth : Float
hundredth = of_bits binary64 0x3f84_7ae1_47ae_147b

abbrev pub fiftieth : Float
fiftieth = of_bits binary64 0x3f94_7ae1_47ae_147b

abbrev pub tenth : Float
tenth = of_bits binary64 0x3fb9_9999_9999_999a

abbrev pub three_quarters : Float
three_quarters = of_bits binary64 0x3fe8_0000_0000_0000

abbrev pub one_and_half : Float
one_and_half = of_bits binary64 0x3ff8_0000_0000_0000

abbrev pub two_and_quarter : Float
two_and_quarter = of_bits binary64 0x4002_0000_0000_0000

abbrev pub three : Float
three = of_bits binary64 0x4008_0000_0000_0000

abbrev pub six : Float
six = of_bits binary64 0x4018_0000_0000_0000

-- ---- the decimals, as fractions: proofs/Decimals.antt shows that each f64 but +0.0 is the one nearest to its own

pub record Decimal : Type 0 where
  pub num : ℕ
  pub den : ℕ
  pub value : Float

abbrev pub IsNearest : Decimal → Type 0
IsNearest d = Nearest 1 d.num d.den (to_bits binary64 d.value)

abbrev pub decimal : ℕ → ℕ → Float → Decimal
decimal n d x = record { num = n; den = d; value = x }

unfoldable pub decimals : List Decimal
decimals =
    decimal 1 1_000_000 q_zero
    ∷ decimal 1 1_000_000 small_value
    ∷ decimal 1 1_000_000 cv_head_epsilon
    ∷ decimal 100_000_000 1 big_value
    ∷ decimal 1 10_000_000 rq_tol
    ∷ decimal 1 10 pda_min_diff
    ∷ decimal 1 10_000 q_tol
    ∷ decimal 5 10_000 h_tol
    ∷ decimal 1_852 1_000 h_exponent
    ∷ decimal 2_517 100_000 loss_factor
    ∷ decimal 448_831 1_000 gpm_per_cfs
    ∷ decimal 64_632 100_000 mgd_per_cfs
    ∷ decimal 5_382 10_000 imgd_per_cfs
    ∷ decimal 19_837 10_000 afd_per_cfs
    ∷ decimal 28_317 1_000 lps_per_cfs
    ∷ decimal 1_699 1 lpm_per_cfs
    ∷ decimal 24_466 10_000 mld_per_cfs
    ∷ decimal 28_317 1_000_000 cms_per_cfs
    ∷ decimal 10_194 100 cmh_per_cfs
    ∷ decimal 24_466 10 cmd_per_cfs
    ∷ decimal 1 4 quarter
    ∷ decimal 1 2 half
    ∷ decimal 1 1 one
    ∷ decimal 12 10 six_fifths
    ∷ decimal 2 1 two
    ∷ decimal 100 1 hundred
    ∷ decimal 1 100 hundredth
    ∷ decimal 2 100 fiftieth
    ∷ decimal 1 10 tenth
    ∷ decimal 75 100 three_quarters
    ∷ decimal 15 10 one_and_half
    ∷ decimal 225 100 two_and_quarter
    ∷ decimal 3 1 three
    ∷ decimal 6 1 six
    ∷ []
