-- state.rs: the columns of a solve, what they start from, and the heads that a step puts in. Definitions only.
use Rattle.std.specs.Prelude.{ℕ, zero, suc, Bool, List, get_or, set, Float, None, Some}
use Rattle.std.specs.Float.{nan}
use Rattle.layout.specs.declared.places.Layout.{Layout}
use Rattle.nodes.specs.Nodes.{node_of}
use Rattle.links.specs.Links.{link_of, link_status}
use Rattle.numbering.specs.Numbering.{row_at, Row}

-- a head, a demand (what it asks) and a drawn flow for each node, a flow and a status code for each link, and the nodes that were grounded
pub record State : Type 0 where
  pub heads : List Float
  pub demands : List Float
  pub drawn : List Float
  pub flows : List Float
  pub statuses : List ℕ
  pub grounded : List Bool

abbrev pub state : List Float → List Float → List Float → List Float → List ℕ → List Bool → State
state h d f q c z = record { heads = h; demands = d; drawn = f; flows = q; statuses = c; grounded = z }

-- the first i heads and demands, the first j flows and status codes, as the sheet gives them
unfoldable pub heads_from : List ℕ → Layout → ℕ → List Float → List Float
heads_from s l zero x = x
heads_from s l (suc i) x = set (heads_from s l i x) i (node_of s l i).head

unfoldable pub demands_from : List ℕ → Layout → ℕ → List Float → List Float
demands_from s l zero x = x
demands_from s l (suc i) x = set (demands_from s l i x) i (node_of s l i).demand

unfoldable pub flows_from : List ℕ → Layout → ℕ → List Float → List Float
flows_from s l zero x = x
flows_from s l (suc j) x = set (flows_from s l j x) j (link_of s l j).flow

unfoldable pub codes_from : List ℕ → Layout → ℕ → List ℕ → List ℕ
codes_from s l zero x = x
codes_from s l (suc j) x = set (codes_from s l j x) j (link_status s l j)

-- the head of node i, which has this row, from the solved unknowns x; a node that is no unknown keeps its own
unfoldable pub with_head : Row → List Float → ℕ → List Float → List Float
with_head (Some u) x i h = set h i (get_or x u.0 nan)
with_head None x i h = h

-- and of the first i nodes
unfoldable pub solved_heads : List ℕ → Layout → List Float → ℕ → List Float → List Float
unfolding row_at with_head
solved_heads s l x zero h = h
solved_heads s l x (suc i) h = with_head (row_at s l i) x i (solved_heads s l x i h)
