-- Document 01's bounds of the fields, which the tests take as a parameter. Definitions only.
use Rattle.std.specs.Prelude.{ℕ, zero, suc, ◌+◌, ◌*◌, Bool, true, ◌&&◌, ◌||◌, List, eqb, leb, ltb, Float}
use Rattle.std.specs.Float.{binary64}
use Rattle.std.specs.Float.Ieee.{of_bits, lt, le}
use Rattle.float.specs.Sign.{abs_of}
use Rattle.patterns.specs.Bytes.{from_bytes}
use Rattle.records.specs.Records.{byte_at, pair_at}
use Rattle.fields.specs.declared.fields.Bounds.{Bounds}

-- 64 nodes, 128 links, 200 trials, units to 10, 2 ^ 40 and 2 ^ -10
unfoldable pub base_bounds : Bounds
base_bounds =
    record { nodes = 64; links = 128; trials = 200; unit = 10; magnitude = of_bits binary64 0x4270_0000_0000_0000; diameter = of_bits binary64 0x3f50_0000_0000_0000 }

abbrev pub null : Float
null = of_bits binary64 0

-- finite and at most so large in magnitude: no NaN and no infinity is
unfoldable pub within : Bounds → Float → Bool
within b x = le (abs_of x) b.magnitude

-- k floats from `at` on are
unfoldable pub all_within : Bounds → ℕ → List ℕ → ℕ → Bool
unfolding within
all_within b zero s at = true
all_within b (suc k) s at = all_within b k s at && within b (from_bytes s (at + 8 * k))

-- OP: the three floats in bounds; accuracy above 0; damping limit and max flow change 0 or more; trials; the unit's code
unfoldable pub options_good : Bounds → List ℕ → Bool
unfolding all_within
options_good b s =
    all_within b 3 s 2
    && lt null (from_bytes s 2)
    && le null (from_bytes s 10)
    && le null (from_bytes s 18)
    && leb 1 (pair_at s 26)
    && leb (pair_at s 26) b.trials
    && leb (byte_at s 28) b.unit

-- PD: both floats in bounds; required not below minimum
unfoldable pub pressures_good : Bounds → List ℕ → Bool
unfolding all_within
pressures_good b s = all_within b 2 s 31 && le (from_bytes s 31) (from_bytes s 39)

-- ND: kind, disabled flag, five floats, overflow flag
unfoldable pub node_good : Bounds → List ℕ → ℕ → Bool
unfolding all_within
node_good b s at = leb (byte_at s (at + 2)) 2 && leb (byte_at s (at + 3)) 1 && all_within b 5 s (at + 4) && leb (byte_at s (at + 44)) 1

-- LK, among n nodes: kind, check valve flag, status, both ends
unfoldable pub link_codes : ℕ → List ℕ → ℕ → Bool
link_codes n s at =
    leb (byte_at s (at + 2)) 6
    && leb (byte_at s (at + 3)) 1
    && leb (byte_at s (at + 4)) 7
    && ltb (pair_at s (at + 5)) n
    && ltb (pair_at s (at + 7)) n

-- five floats; minor loss and resistance 0 or more; a valve's diameter not below the least
unfoldable pub link_numbers : Bounds → List ℕ → ℕ → Bool
unfolding all_within
link_numbers b s at =
    all_within b 5 s (at + 9)
    && le null (from_bytes s (at + 17))
    && le null (from_bytes s (at + 33))
    && (eqb (byte_at s (at + 2)) 0 || le b.diameter (from_bytes s (at + 25)))

unfoldable pub link_good : Bounds → ℕ → List ℕ → ℕ → Bool
unfolding link_codes link_numbers
link_good b n s at = link_codes n s at && link_numbers b s at
