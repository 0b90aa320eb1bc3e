-- Numbers and f64s as bytes, the lowest byte first. Definitions only.
use Rattle.std.specs.Prelude.{ℕ, zero, suc, ◌+◌, ◌*◌, List, get_or, Float}
use Rattle.std.specs.Float.{binary64}
use Rattle.std.specs.Float.Ieee.{of_bits}

-- the number of k bytes that stand in s from `at` on
unfoldable pub little_endian : ℕ → List ℕ → ℕ → ℕ
little_endian zero s at = 0
little_endian (suc k) s at = get_or s at 0 + 256 * little_endian k s (at + 1)

-- the f64 of eight bytes: every pattern of a NaN is the one NaN
unfoldable pub from_bytes : List ℕ → ℕ → Float
unfolding little_endian
from_bytes s at = of_bits binary64 (little_endian 8 s at)
