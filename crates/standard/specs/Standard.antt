-- The line behind an item, and the limits of a sale. Definitions only.
use Rattle.std.specs.Prelude.{ℕ, ◌+◌, List, set}
use Rattle.patterns.specs.Bytes.{from_bytes}
use Rattle.tolerance.specs.declared.Limits.{Limits}

-- a line `--` behind the first n bytes
abbrev pub item_of : List ℕ → ℕ → List ℕ
item_of out n = set (set (set out n 45) (n + 1) 45) (n + 2) 10

-- the limits of a sale, as three f64s one behind the other
abbrev pub limits_of : List ℕ → Limits
limits_of head = record { pressure = from_bytes head 0; head = from_bytes head 8; flow = from_bytes head 16 }
