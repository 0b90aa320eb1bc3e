-- What a link adds changes no length. Assumes nothing.
use mathlib.Core.Path.{◌≡◌, refl, ◌∙◌}
use mathlib.Core.Bool.{Bool, true, false, cond}
use mathlib.Core.List.{List}
use lib.ListN.{length}
use lib.Ieee.{Float}
use Rattle.constants.specs.Arithmetic.{minus, times}
use Rattle.coefficient.specs.declared.Coefficients.{Coefficients}
use Rattle.coefficient.specs.declared.NodeAddition.{NodeAddition}
use Rattle.rows.specs.Rows.{on_row, off_row, on_diagonal, off_between}
use Rattle.rows.proofs.Lengths.{on_row_long, off_row_long, on_diagonal_long, between_long}
use Rattle.scatter.specs.Scatter.{given_diagonal, given_row, fixed_term, link_matrix, link_row}
use Rattle.numbering.specs.Numbering.{Row}
use Rattle.std.specs.Prelude.{Option, Some, None}

pub either_long : (b : Bool) (e f r : List Float) → length e ≡ length r → length f ≡ length r → length (cond b e f) ≡ length r
either_long true e f r h k = h
either_long false e f r h k = k

given_diagonal_long : (a : Option NodeAddition) (row : Row) (m : List Float) → length (given_diagonal a row m) ≡ length m
unfolding given_diagonal
given_diagonal_long None row m = refl
given_diagonal_long (Some a) row m = on_diagonal_long row a.diagonal m

given_row_long : (a : Option NodeAddition) (row : Row) (r : List Float) → length (given_row a row r) ≡ length r
unfolding given_row
given_row_long None row r = refl
given_row_long (Some a) row r = on_row_long row a.rhs r

fixed_long : (b : Bool) (row : Row) (x : Float) (r : List Float) → length (fixed_term b row x r) ≡ length r
unfolding fixed_term
fixed_long b row x r = either_long b (on_row row x r) r r (on_row_long row x r) refl

pub matrix_long : (u v : Row) (c : Coefficients) (m : List Float) → length (link_matrix u v c m) ≡ length m
unfolding link_matrix
matrix_long u v c m =
    given_diagonal_long c.downstream v _ ∙ given_diagonal_long c.upstream u _ ∙ between_long u v c.conductance _ ∙ on_diagonal_long v c.conductance _ ∙ on_diagonal_long u c.conductance m

pub row_long : (u v : Row) (c : Coefficients) (q : Float) (s t : Bool) (x y : Float) (r : List Float) → length (link_row u v c q s t x y r) ≡ length r
unfolding link_row
row_long u v c q s t x y r =
    given_row_long c.downstream v _ ∙ given_row_long c.upstream u _ ∙ fixed_long s v (times c.conductance x) _ ∙ on_row_long v (minus q c.offset) _ ∙ fixed_long t u (times c.conductance y) _ ∙ off_row_long u (minus q c.offset) r
