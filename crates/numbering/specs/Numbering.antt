-- Document 01, item 6: junctions in service are numbered as unknowns in node order. Definitions only.
use Rattle.std.specs.Prelude.{ℕ, zero, suc, ◌<◌, ◌≡◌, cond, ◌&&◌, List, eqb, get_or, set, None, Some, Option}
use Rattle.layout.specs.declared.places.Layout.{Layout}
use Rattle.linear.specs.declared.factorization.UnknownIndex.{UnknownIndex}
use Rattle.nodes.specs.Nodes.{in_service, serving}

-- the mark for "no unknown"
abbrev pub no_unknown : ℕ
no_unknown = 0xffff_ffff

-- a column with the numbers of the first i nodes: a junction in service has as many before it
unfoldable pub numbered : List ℕ → Layout → ℕ → List ℕ → List ℕ
unfolding serving
numbered s l zero x = x
numbered s l (suc i) x = set (numbered s l i x) i (cond {A = ℕ} (in_service s l i) (serving s l i) no_unknown)

-- what a node is in the matrix: an unknown, or none of its rows
abbrev pub Row : Type 0
Row = Option UnknownIndex

-- what a column says of a node
unfoldable pub row_of : List ℕ → ℕ → Row
row_of x i = cond (eqb (get_or x i 0) no_unknown) None (Some (record { 0 = get_or x i 0 }))

-- the row of node i: a junction in service is the unknown of its number
unfoldable pub row_at : List ℕ → Layout → ℕ → Row
unfolding serving
row_at s l i = cond (in_service s l i) (Some (record { 0 = serving s l i })) None

-- a column of numbers says the row of each node
pub record RowsRight (l : Layout) (s unknowns : List ℕ) : Type 0 where
  pub right : (i : ℕ) → i < l.nodes → row_of unknowns i ≡ row_at s l i

-- the node of unknown u, of the first i nodes: the junction in service that has u before it
unfoldable pub node_numbered : List ℕ → Layout → ℕ → ℕ → ℕ
unfolding serving
node_numbered s l zero u = 0
node_numbered s l (suc i) u = cond {A = ℕ} (in_service s l i && eqb (serving s l i) u) i (node_numbered s l i u)

-- node i where its row is unknown u, else what was found before
unfoldable pub found_by : Row → ℕ → ℕ → ℕ → ℕ
found_by (Some v) u i was = cond {A = ℕ} (eqb v.0 u) i was
found_by None u i was = was

-- a row is one of the first n
pub record RowBelow (n : ℕ) (row : Row) : Type 0 where
  pub below : (u : UnknownIndex) → row ≡ Some u → u.0 < n
