-- One entry of the matrix or of the right side, by the rows of the nodes. Definitions only.
use Rattle.std.specs.Prelude.{ℕ, ◌+◌, ◌*◌, cond, List, ltb, Float, None, Some}
use Rattle.columns.specs.Columns.{add_to, take_from}
use Rattle.numbering.specs.Numbering.{Row}

-- x added to, and taken from, a row of the right side; a node that is no unknown has none
unfoldable pub on_row : Row → Float → List Float → List Float
unfolding add_to
on_row (Some u) x r = add_to r u.0 x
on_row None x r = r

unfoldable pub off_row : Row → Float → List Float → List Float
unfolding take_from
off_row (Some u) x r = take_from r u.0 x
off_row None x r = r

-- x added to a diagonal
unfoldable pub on_diagonal : Row → Float → List Float → List Float
unfolding add_to
on_diagonal (Some u) x m = add_to m (64 * u.0 + u.0) x
on_diagonal None x m = m

-- the place of unknowns i and j in the lower triangle by columns: the greater one's row of the smaller one's column
unfoldable pub lower : ℕ → ℕ → ℕ
lower i j = cond {A = ℕ} (ltb i j) (64 * i + j) (64 * j + i)

-- x taken from the entry of two unknowns
unfoldable pub off_between : Row → Row → Float → List Float → List Float
unfolding take_from lower
off_between (Some u) (Some v) x m = take_from m (lower u.0 v.0) x
off_between (Some u) None x m = m
off_between None v x m = m
