-- The links of a sheet: their fields by (sheet, layout, index). Definitions only.
use Rattle.std.specs.Prelude.{ℕ, ◌+◌, ◌<◌, Bool, ◌||◌, List, eqb}
use Rattle.layout.specs.Places.{link_place}
use Rattle.layout.specs.declared.places.Layout.{Layout}
use Rattle.records.specs.Records.{byte_at, pair_at, link_at}
use Rattle.records.specs.declared.records.Link.{Link}

-- the whole record of link j
unfoldable pub link_of : List ℕ → Layout → ℕ → Link
link_of s l j = link_at s (link_place l j)

-- the node at which it starts, the node at which it ends, and the code of its status
unfoldable pub link_start : List ℕ → Layout → ℕ → ℕ
link_start s l j = pair_at s (link_place l j + 5)

unfoldable pub link_end : List ℕ → Layout → ℕ → ℕ
link_end s l j = pair_at s (link_place l j + 7)

unfoldable pub link_status : List ℕ → Layout → ℕ → ℕ
link_status s l j = byte_at s (link_place l j + 4)

-- it is a PRV (kind 1) or a PSV (kind 2)
unfoldable pub regulator : List ℕ → Layout → ℕ → Bool
regulator s l j = eqb (byte_at s (link_place l j + 2)) 1 || eqb (byte_at s (link_place l j + 2)) 2

-- the ends of every link are nodes
pub record EndsIn (l : Layout) (s : List ℕ) : Type 0 where
  pub start : (j : ℕ) → j < l.links → link_start s l j < l.nodes
  pub end : (j : ℕ) → j < l.links → link_end s l j < l.nodes
