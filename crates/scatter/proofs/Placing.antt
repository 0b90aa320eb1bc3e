-- What one link adds: each function's answer by its branches, as laws of the definitions. Assumes nothing.
use mathlib.Core.Path.{◌≡◌}
use mathlib.Core.Bool.{Bool, true, false}
use mathlib.Core.List.{List}
use lib.Ieee.{Float}
use Rattle.constants.specs.Arithmetic.{minus, times}
use Rattle.coefficient.specs.declared.Coefficients.{Coefficients}
use Rattle.coefficient.specs.declared.NodeAddition.{NodeAddition}
use Rattle.rows.specs.Rows.{on_row, off_row, on_diagonal, off_between}
use Rattle.scatter.specs.Scatter.{given_diagonal, given_row, fixed_term, link_matrix, link_row}
use Rattle.numbering.specs.Numbering.{Row}
use Rattle.std.specs.Prelude.{Option, Some, None}

module _ (x : Option NodeAddition) (a : NodeAddition) (row : Row) (e f : List Float) where
  pub given_diagonal_lem : x ≡ Some a → f ≡ on_diagonal row a.diagonal e → f ≡ given_diagonal x row e
  unfolding given_diagonal
  given_diagonal_lem h p = rw (h, p)

  pub given_row_lem : x ≡ Some a → f ≡ on_row row a.rhs e → f ≡ given_row x row e
  unfolding given_row
  given_row_lem h p = rw (h, p)

module _ (x : Option NodeAddition) (row : Row) (e : List Float) where
  pub absent_diagonal : x ≡ None → e ≡ given_diagonal x row e
  unfolding given_diagonal
  absent_diagonal h = rw h

  pub absent_row : x ≡ None → e ≡ given_row x row e
  unfolding given_row
  absent_row h = rw h

module _ (fixed : Bool) (row : Row) (x : Float) (e : List Float) where
  pub fixed_none : fixed ≡ false → e ≡ fixed_term fixed row x e
  unfolding fixed_term
  fixed_none h = rw h

  pub fixed_some : (f : List Float) → fixed ≡ true → f ≡ on_row row x e → f ≡ fixed_term fixed row x e
  unfolding fixed_term
  fixed_some f h p = rw (h, p)

pub matrix_of : (u v : Row) (c : Coefficients) (m m₁ m₂ m₃ m₄ m₅ : List Float)
    → m₁ ≡ on_diagonal u c.conductance m
    → m₂ ≡ on_diagonal v c.conductance m₁
    → m₃ ≡ off_between u v c.conductance m₂
    → m₄ ≡ given_diagonal c.upstream u m₃
    → m₅ ≡ given_diagonal c.downstream v m₄
    → m₅ ≡ link_matrix u v c m
unfolding link_matrix
matrix_of u v c m m₁ m₂ m₃ m₄ m₅ a b d e f = rw (f, e, d, b, a)

pub row_of : (u v : Row) (c : Coefficients) (q : Float) (s t : Bool) (x y : Float) (r r₁ r₂ r₃ r₄ r₅ r₆ : List Float)
    → r₁ ≡ off_row u (minus q c.offset) r
    → r₂ ≡ fixed_term t u (times c.conductance y) r₁
    → r₃ ≡ on_row v (minus q c.offset) r₂
    → r₄ ≡ fixed_term s v (times c.conductance x) r₃
    → r₅ ≡ given_row c.upstream u r₄
    → r₆ ≡ given_row c.downstream v r₅
    → r₆ ≡ link_row u v c q s t x y r
unfolding link_row
row_of u v c q s t x y r r₁ r₂ r₃ r₄ r₅ r₆ a b d e f g = rw (g, f, e, d, b, a)
