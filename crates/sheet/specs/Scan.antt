-- Which records stand in a sheet, one behind the other. Definitions only.
use Rattle.std.specs.Prelude.{ℕ, zero, suc, ◌+◌, ◌*◌, Bool, cond, ◌&&◌, List, eqb, leb, length, get_or}
use Rattle.layout.specs.Places.{heading, planned, link_place}
use Rattle.layout.specs.declared.places.Layout.{Layout}

-- a record of `size` bytes with the mark's two letters can be read at `at`
unfoldable pub readable : ℕ → ℕ → ℕ → List ℕ → ℕ → Bool
readable first second size s at = leb (at + size) (length s) && (eqb (get_or s at 0) first && eqb (get_or s (at + 1) 0) second)

-- how many such records, of k at most, stand one behind the other from `at` on
unfoldable pub records_from : ℕ → ℕ → ℕ → ℕ → List ℕ → ℕ → ℕ
unfolding readable
records_from first second size zero s at = 0
records_from first second size (suc k) s at = cond {A = ℕ} (readable first second size s at) (suc (records_from first second size k s (at + size))) 0

-- one OP can be read; a PD straight after it, or none; then so many ND; then so many LK
unfoldable pub has_options : List ℕ → Bool
has_options s = readable 79 80 29 s 0

unfoldable pub has_pressures : List ℕ → Bool
has_pressures s = readable 80 68 18 s 29

-- where the first ND stands
unfoldable pub nodes_at : List ℕ → ℕ
unfolding has_pressures
nodes_at s = heading (has_pressures s)

unfoldable pub nodes_of : List ℕ → ℕ
unfolding records_from nodes_at
nodes_of s = records_from 78 68 45 (length s) s (nodes_at s)

unfoldable pub links_of : List ℕ → ℕ
unfolding records_from nodes_at nodes_of
links_of s = records_from 76 75 49 (length s) s (nodes_at s + 45 * nodes_of s)

-- the layout that they give, its unknowns not yet counted
unfoldable pub layout_of : List ℕ → Layout
unfolding has_pressures nodes_of links_of
layout_of s = planned (has_pressures s) (nodes_of s) (links_of s) 0

-- where they end
unfoldable pub end_of : List ℕ → ℕ
unfolding layout_of
end_of s = link_place (layout_of s) (layout_of s).links
