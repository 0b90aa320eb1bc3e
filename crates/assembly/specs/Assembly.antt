-- Document 01, item 6: the matrix and the right side: links in order, then, where a PD stands, the bends of demands that give way (request [11]), then node demands, then SMALL_VALUE on each grounded diagonal. Definitions only.
use Rattle.std.specs.Prelude.{ℕ, zero, suc, Bool, false, cond, List, get_or, Float}
use Rattle.std.specs.Float.{nan}
use Rattle.layout.specs.declared.places.Layout.{Layout}
use Rattle.links.specs.Links.{link_of}
use Rattle.constants.specs.Constants.{small_value}
use Rattle.columns.specs.Columns.{cleared}
use Rattle.numbering.specs.Numbering.{row_at, Row}
use Rattle.scatter.specs.Scatter.{on_diagonal, off_row}
use Rattle.drawing.specs.Drawing.{counting}
use Rattle.bends.specs.Bends.{bent_matrix, bent_right}
-- what one link adds, from crate link_rows
pub use Rattle.link_rows.specs.LinkRows.{System, system, View, view, Given, Sized}
unfoldable pub use Rattle.link_rows.specs.LinkRows.{coefficients_at, link_placed, link_added}

-- the first j links, in order
unfoldable pub with_links : List ℕ → Layout → View → ℕ → System → System
unfolding link_added
with_links s l v zero a = a
with_links s l v (suc j) a = link_added s l v (link_of s l j) j (with_links s l v j a)

-- the demands of the first i nodes, each taken from its row where it has one
unfoldable pub demands_taken : List ℕ → Layout → List Float → ℕ → List Float → List Float
unfolding row_at off_row
demands_taken s l d zero r = r
demands_taken s l d (suc i) r = off_row (row_at s l i) (get_or d i nan) (demands_taken s l d i r)

-- SMALL_VALUE on the diagonal of a node that is grounded
unfoldable pub ground_of : Bool → Row → List Float → List Float
unfolding on_diagonal
ground_of marked row m = cond marked (on_diagonal row small_value m) m

-- and of the first i nodes
unfoldable pub grounded_of : List ℕ → Layout → List Bool → ℕ → List Float → List Float
unfolding row_at ground_of
grounded_of s l marks zero m = m
grounded_of s l marks (suc i) m = ground_of (get_or marks i false) (row_at s l i) (grounded_of s l marks i m)

-- the right side once the bends are in and the demands that count are taken
unfoldable pub right_of : List ℕ → Layout → List Float → List Float → List Float → List Float
unfolding demands_taken
right_of s l demands drawn r = demands_taken s l (counting l.pressures drawn demands) l.nodes (bent_right s l demands drawn r)

-- the whole, from +0.0 throughout
unfoldable pub assemble_of : List ℕ → Layout → View → List Float → List Float → List Bool → System → System
unfolding with_links right_of grounded_of cleared
assemble_of s l v demands drawn marks a =
    let b = with_links s l v l.links (system (cleared 4096 a.matrix) (cleared 64 a.rhs) a.g a.y) in
    system (grounded_of s l marks l.nodes (bent_matrix s l demands drawn b.matrix)) (right_of s l demands drawn b.rhs) b.g b.y
