-- A sheet with a row of demands in it: each node's demand field, and no other byte; and the demands that no sheet may hold. Definitions only.
use Rattle.std.specs.Prelude.{ℕ, zero, suc, ◌+◌, ◌*◌, ◌/◌, ◌%◌, Bool, not, List, get_or, set, Float, None, Option, Some}
use Rattle.std.specs.Float.{nan, binary64}
use Rattle.std.specs.Float.Ieee.{to_bits}
use Rattle.layout.specs.Places.{node_place}
use Rattle.layout.specs.declared.places.Layout.{Layout}
use Rattle.found.specs.Searches.{first_of}
use Rattle.fields.specs.Fields.{base_bounds, within}

-- the k bytes of a number from `at` on, the lowest byte first
unfoldable pub number_put : ℕ → List ℕ → ℕ → ℕ → List ℕ
number_put zero s at number = s
number_put (suc k) s at number = number_put k (set s at (number % 256)) (at + 1) (number / 256)

-- row r of a table of one entry a node: the demands of the first i nodes, each the eight bytes from the twelfth of its record on; a NaN has its one pattern
unfoldable pub demands_put : ℕ → List ℕ → Layout → List Float → ℕ → List ℕ
unfolding number_put
demands_put zero s l table r = s
demands_put (suc i) s l table r = number_put 8 (demands_put i s l table r) (node_place l i + 12) (to_bits binary64 (get_or table (r * l.nodes + i) nan))

-- the sheet with the demands of row r
unfoldable pub row_sheet : List ℕ → Layout → List Float → ℕ → List ℕ
unfolding demands_put
row_sheet s l table r = demands_put l.nodes s l table r

-- ---- the demands that no sheet may hold

-- the demand of node i in row r is not within document 01's bounds
unfoldable pub outside : Layout → List Float → ℕ → ℕ → Bool
outside l table r i = not (within base_bounds (get_or table (r * l.nodes + i) nan))

-- the place of a node that was found
abbrev pub node_found : Layout → Option ℕ → Option ℕ
node_found l (Some i) = Some (node_place l i)
node_found l None = None

-- the place of the first node whose demand in row r is not
unfoldable pub bad_demand : Layout → List Float → ℕ → Option ℕ
unfolding outside
bad_demand l table r = node_found l (first_of (outside l table r) l.nodes)
