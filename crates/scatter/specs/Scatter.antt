-- Document 01, item 6: what one link adds to the matrix and to the right side, in the Rust's order. Definitions only.
use Rattle.std.specs.Prelude.{Bool, cond, List, Float, Option, Some, None}
use Rattle.constants.specs.Arithmetic.{minus, times}
use Rattle.coefficient.specs.declared.Coefficients.{Coefficients}
use Rattle.coefficient.specs.declared.NodeAddition.{NodeAddition}
use Rattle.numbering.specs.Numbering.{Row}
unfoldable pub use Rattle.rows.specs.Rows.{on_row, off_row, on_diagonal, lower, off_between}

-- a regulator's addition; an absent one is not added
unfoldable pub given_diagonal : Option NodeAddition → Row → List Float → List Float
unfolding on_diagonal
given_diagonal None row m = m
given_diagonal (Some a) row m = on_diagonal row a.diagonal m

unfoldable pub given_row : Option NodeAddition → Row → List Float → List Float
unfolding on_row
given_row None row r = r
given_row (Some a) row r = on_row row a.rhs r

-- the term of a fixed head at the other end
unfoldable pub fixed_term : Bool → Row → Float → List Float → List Float
unfolding on_row
fixed_term fixed row x r = cond fixed (on_row row x r) r

-- a link from row u to row v in the matrix
unfoldable pub link_matrix : Row → Row → Coefficients → List Float → List Float
unfolding on_diagonal off_between given_diagonal
link_matrix u v c m =
    given_diagonal c.downstream v
    (given_diagonal c.upstream u
    (off_between u v c.conductance
    (on_diagonal v c.conductance
    (on_diagonal u c.conductance m))))

-- and in the right side, at flow q, with whether each end's head is fixed and the heads
unfoldable pub link_row : Row → Row → Coefficients → Float → Bool → Bool → Float → Float → List Float → List Float
unfolding on_row off_row given_row fixed_term
link_row u v c q fixedStart fixedEnd headStart head_end r =
    given_row c.downstream v
    (given_row c.upstream u
    (fixed_term fixedStart v (times c.conductance headStart)
    (on_row v (minus q c.offset)
    (fixed_term fixedEnd u (times c.conductance head_end)
    (off_row u (minus q c.offset) r)))))
