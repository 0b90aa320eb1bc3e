-- The table of x ^ 0.852 and that of x ^ 0.871 hold those powers: each passes the tests for its exponent. Assumes nothing.
use mathlib.Core.Path.{◌≡◌, refl}
use mathlib.Core.Bool.{Bool, true, false}
use mathlib.Core.List.{List, [], ◌∷◌}
use lib.Dec.{T, lit≤}
use lib.ListN.{length}
use lib.Ieee.{nan_bits}
use Rattle.tables.specs.Tables.{table_a, table_b, power_table}
use Rattle.tables.specs.Tables871.{table_a871, table_b871, power_table871}
use Rattle.tables.specs.Entries.{nan_free}
use Rattle.tables.specs.Powers.{Powers}
use Rattle.tables.proofs.Table.{every}
use Rattle.tables.proofs.Rounded.{up, down, number}
use Rattle.tables.proofs.Test.{four, low_middle, high_middle, tests_a, tests_b, near_a, near_b}
use Rattle.tables.proofs.Entries.{powers}

-- 213 is 11010101 in binary, 250 is 11111010, 871 is 1101100111 and 1000 is 1111101000
abbrev pub d213 : List Bool
d213 = true ∷ false ∷ true ∷ false ∷ true ∷ false ∷ true ∷ []

abbrev pub d250 : List Bool
d250 = false ∷ true ∷ false ∷ true ∷ true ∷ true ∷ true ∷ []

abbrev pub d871 : List Bool
d871 = true ∷ true ∷ true ∷ false ∷ false ∷ true ∷ true ∷ false ∷ true ∷ []

abbrev pub d1000 : List Bool
d1000 = false ∷ false ∷ false ∷ true ∷ false ∷ true ∷ true ∷ true ∷ true ∷ []

pub passed_a : T (every (near_a d213 d250) 0 table_a)
unfolding near_a tests_a four low_middle high_middle up down table_a
passed_a = tt

pub passed_b : T (every (near_b d213 d250) 0 table_b)
unfolding near_b tests_b four low_middle high_middle up down table_b
passed_b = tt

passed_a_871 : T (every (near_a d871 d1000) 0 table_a871)
unfolding near_a tests_a four low_middle high_middle up down table_a871
passed_a_871 = tt

passed_b_871 : T (every (near_b d871 d1000) 0 table_b871)
unfolding near_b tests_b four low_middle high_middle up down table_b871
passed_b_871 = tt

pub length_a : length table_a ≡ 1025
unfolding table_a
length_a = refl

pub length_b : length table_b ≡ 128
unfolding table_b
length_b = refl

length_a_871 : length table_a871 ≡ 1025
unfolding table_a871
length_a_871 = refl

length_b_871 : length table_b871 ≡ 128
unfolding table_b871
length_b_871 = refl

pub powers_852 : Powers 213 250 power_table
unfolding power_table
powers_852 = powers d213 d250 table_a table_b (lit≤ tt) length_a length_b passed_a passed_b

pub powers_871 : Powers 871 1000 power_table871
unfolding power_table871
powers_871 = powers d871 d1000 table_a871 table_b871 (lit≤ tt) length_a_871 length_b_871 passed_a_871 passed_b_871

-- ---- no entry is a NaN

pub nan_free_852 : T (nan_free power_table)
unfolding power_table table_a table_b nan_bits nan_free
nan_free_852 = tt

pub nan_free_871 : T (nan_free power_table871)
unfolding power_table871 table_a871 table_b871 nan_bits nan_free
nan_free_871 = tt
