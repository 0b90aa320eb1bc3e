-- The nodes of a sheet: their fields by (sheet, layout, index). Definitions only.
use Rattle.std.specs.Prelude.{ℕ, zero, suc, ◌+◌, Bool, cond, not, ◌&&◌, List, eqb, Float}
use Rattle.patterns.specs.Bytes.{from_bytes}
use Rattle.layout.specs.Places.{node_place}
use Rattle.layout.specs.declared.places.Layout.{Layout}
use Rattle.records.specs.Records.{byte_at, node_at}
use Rattle.records.specs.declared.records.Node.{Node}

-- the whole record of node i
unfoldable pub node_of : List ℕ → Layout → ℕ → Node
node_of s l i = node_at s (node_place l i)

-- node i is not disabled; is no junction; is a junction, and not disabled; is a tank
unfoldable pub enabled : List ℕ → Layout → ℕ → Bool
enabled s l i = eqb (byte_at s (node_place l i + 3)) 0

unfoldable pub fixed_node : List ℕ → Layout → ℕ → Bool
fixed_node s l i = not (eqb (byte_at s (node_place l i + 2)) 0)

unfoldable pub in_service : List ℕ → Layout → ℕ → Bool
in_service s l i = eqb (byte_at s (node_place l i + 2)) 0 && eqb (byte_at s (node_place l i + 3)) 0

unfoldable pub tank_at : List ℕ → Layout → ℕ → Bool
tank_at s l i = eqb (byte_at s (node_place l i + 2)) 2

unfoldable pub elevation_of : List ℕ → Layout → ℕ → Float
elevation_of s l i = from_bytes s (node_place l i + 4)

-- how many of the first i nodes are junctions in service
unfoldable pub serving : List ℕ → Layout → ℕ → ℕ
serving s l zero = 0
serving s l (suc i) = cond {A = ℕ} (in_service s l i) (suc (serving s l i)) (serving s l i)
