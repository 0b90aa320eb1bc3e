-- Document 01, item 2: a power of x by the two tables of its exponent, lent as one, for every f64. Definitions only.
use Rattle.std.specs.Prelude.{ℕ, ◌+◌, ◌-◌, ◌*◌, ◌/◌, ◌%◌, ◌^◌, false, cond, List, eqb, ltb, leb, pos, Float}
use Rattle.std.specs.Float.{nan, inf, binary64}
use Rattle.std.specs.Float.Ieee.{add, sub, mul, of_int, of_bits, to_bits, is_nan}
use Rattle.tables.specs.Entries.{entry_a, entry_b}
use Rattle.tables.specs.Tables.{power_table}
use Rattle.tables.specs.Tables871.{power_table871}

-- n / 2 ^ 42
abbrev pub part : ℕ → Float
part n = mul binary64 (of_int binary64 (pos n)) (of_bits binary64 0x3d50_0000_0000_0000)

-- (A[i] + r * (A[i + 1] - A[i])) * B[e], with r as n / 2 ^ 42 and e as its place j; A and B of the table t
unfoldable pub between : List ℕ → ℕ → ℕ → ℕ → Float
between t i n j = mul binary64 (add binary64 (entry_a t i) (mul binary64 (part n) (sub binary64 (entry_a t (i + 1)) (entry_a t i)))) (entry_b t j)

-- By the pattern p of x: -0.0 gives 0; below zero: NaN; below 2 ^ -64: 0; from 2 ^ 64: infinity. Else x is m * 2 ^ e: the steps of 1 / 1,024 in m are
-- the highest ten digits of p below the exponent's field, the rest are the 42 others, and e is the field less 1023.
unfoldable pub power_bits : List ℕ → ℕ → Float
unfolding between
power_bits t p =
    cond (eqb p (2 ^ 63)) (of_bits binary64 0)
    (cond (ltb (2 ^ 63) p) nan
    (cond (ltb p (959 * 2 ^ 52)) (of_bits binary64 0)
    (cond (leb (1087 * 2 ^ 52) p) (inf false)
    (between t (p / 2 ^ 42 % 1024) (p % 2 ^ 42) (1086 - p / 2 ^ 52)))))

unfoldable pub power_by : List ℕ → Float → Float
unfolding power_bits
power_by t x = cond (is_nan x) nan (power_bits t (to_bits binary64 x))

-- x ^ 0.852 and x ^ 0.871
unfoldable pub power_of : Float → Float
power_of x = power_by power_table x

unfoldable pub power871 : Float → Float
power871 x = power_by power_table871 x
