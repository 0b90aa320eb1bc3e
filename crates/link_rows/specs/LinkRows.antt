-- Document 01, item 6: what one link adds to the matrix and the right side. Definitions only.
use Rattle.std.specs.Prelude.{ℕ, ◌≤◌, ◌≡◌, cond, ◌&&◌, List, length, get_or, set, Float}
use Rattle.std.specs.Float.{nan}
use Rattle.layout.specs.Places.{Laid}
use Rattle.layout.specs.declared.places.Layout.{Layout}
use Rattle.codes.specs.Codes.{status_of}
use Rattle.records.specs.declared.records.Link.{Link}
use Rattle.links.specs.Links.{EndsIn}
use Rattle.model.specs.Rules.{coefficients_of}
use Rattle.coefficient.specs.declared.Coefficients.{Coefficients}
use Rattle.nodes.specs.Nodes.{enabled, fixed_node, elevation_of}
use Rattle.numbering.specs.Numbering.{row_at, RowsRight}
use Rattle.scatter.specs.Scatter.{link_matrix, link_row}

-- the matrix, the right side, and the columns of the links' g and y
pub record System : Type 0 where
  pub matrix : List Float
  pub rhs : List Float
  pub g : List Float
  pub y : List Float

abbrev pub system : List Float → List Float → List Float → List Float → System
system m r g y = record { matrix = m; rhs = r; g = g; y = y }

-- what a link is read with: the columns of the heads, the flows, the status codes and the excess flows
pub record View : Type 0 where
  pub heads : List Float
  pub flows : List Float
  pub statuses : List ℕ
  pub excess : List Float

abbrev pub view : List Float → List Float → List ℕ → List Float → View
view h q c e = record { heads = h; flows = q; statuses = c; excess = e }

-- what assembling the links asks of a sheet, of a column of numbers and of the columns
pub record Given (l : Layout) (s unknowns : List ℕ) (v : View) : Type 0 where
  pub laid : Laid l s
  pub few : l.nodes ≤ 64
  pub links : l.links ≤ 128
  pub numbers : l.nodes ≤ length unknowns
  pub heads : l.nodes ≤ length v.heads
  pub excess : l.nodes ≤ length v.excess
  pub flows : l.links ≤ length v.flows
  pub statuses : l.links ≤ length v.statuses
  pub ends : EndsIn l s
  pub rows : RowsRight l s unknowns

-- and of the room that is lent for a system
pub record Sized (l : Layout) (a : System) : Type 0 where
  pub matrix : length a.matrix ≡ 4096
  pub rhs : 64 ≤ length a.rhs
  pub g : l.links ≤ length a.g
  pub y : l.links ≤ length a.y

-- the coefficients of link j, which is k, by the columns of the flows, the status codes and the excess flows
unfoldable pub coefficients_at : List ℕ → Layout → List Float → List ℕ → List Float → Link → ℕ → Coefficients
unfolding elevation_of
coefficients_at s l flows statuses excess k j =
    coefficients_of k (status_of (get_or statuses j 0)) (get_or flows j nan)
    (get_or excess k.start nan) (get_or excess k.end nan)
    (elevation_of s l k.start) (elevation_of s l k.end)

-- link j, which is k and has the coefficients c, in service
unfoldable pub link_placed : List ℕ → Layout → View → Link → Coefficients → ℕ → System → System
unfolding row_at fixed_node link_matrix link_row
link_placed s l v k c j a =
    record {
      matrix = link_matrix (row_at s l k.start) (row_at s l k.end) c a.matrix;
      rhs =
          link_row (row_at s l k.start) (row_at s l k.end) c (get_or v.flows j nan)
          (fixed_node s l k.start) (fixed_node s l k.end)
          (get_or v.heads k.start nan) (get_or v.heads k.end nan) a.rhs;
      g = set a.g j c.conductance;
      y = set a.y j c.offset;
    }

-- a link with a disabled node at an end changes nothing
unfoldable pub link_added : List ℕ → Layout → View → Link → ℕ → System → System
unfolding enabled coefficients_at link_placed
link_added s l v k j a =
    cond (enabled s l k.start && enabled s l k.end)
    (link_placed s l v k (coefficients_at s l v.flows v.statuses v.excess k j) j a) a
