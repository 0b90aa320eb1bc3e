-- Each function's answer by its branches, as laws of the definitions. Assumes nothing.
use mathlib.Core.Path.{◌≡◌}
use mathlib.Core.List.{List}
use Prim.Native.Nat.{ℕ, ◌+◌, ◌*◌, ◌≤◌, ◌<◌}
use lib.Ieee.{Float}
use borrow.Author.Tests.{lt-ltb, le-ltb}
use Rattle.linear.specs.declared.factorization.UnknownIndex.{UnknownIndex}
use Rattle.columns.specs.Columns.{add_to, take_from}
use Rattle.rows.specs.Rows.{on_row, off_row, on_diagonal, lower, off_between}
use Rattle.std.specs.Prelude.{None, Some}
use Rattle.numbering.specs.Numbering.{Row}

module _ (row : Row) (x : Float) (e : List Float) where
  pub row_none : row ≡ None → e ≡ on_row row x e
  unfolding on_row
  row_none h = rw h

  pub off_row_none : row ≡ None → e ≡ off_row row x e
  unfolding off_row
  off_row_none h = rw h

  pub diagonal_none : row ≡ None → e ≡ on_diagonal row x e
  unfolding on_diagonal
  diagonal_none h = rw h

  module _ (u : UnknownIndex) (f : List Float) where
    pub row-some : row ≡ Some u → f ≡ add_to e u.0 x → f ≡ on_row row x e
    unfolding on_row
    row-some h p = rw (h, p)

    pub off-row-some : row ≡ Some u → f ≡ take_from e u.0 x → f ≡ off_row row x e
    unfolding off_row
    off-row-some h p = rw (h, p)

    pub diagonal-some : row ≡ Some u → f ≡ add_to e (64 * u.0 + u.0) x → f ≡ on_diagonal row x e
    unfolding on_diagonal
    diagonal-some h p = rw (h, p)

module _ (u v : Row) (x : Float) (e : List Float) where
  pub between_first : u ≡ None → e ≡ off_between u v x e
  unfolding off_between
  between_first h = rw h

  module _ (i : UnknownIndex) where
    pub between-second : u ≡ Some i → v ≡ None → e ≡ off_between u v x e
    unfolding off_between
    between-second h k = rw (h, k)

    module _ (j : UnknownIndex) (f : List Float) where
      pub between-less : u ≡ Some i → v ≡ Some j → i.0 < j.0 → f ≡ take_from e (64 * i.0 + j.0) x → f ≡ off_between u v x e
      unfolding off_between lower
      between-less h k l p = rw (h, k, lt-ltb i.0 j.0 l, p)

      pub between_more : u ≡ Some i → v ≡ Some j → j.0 ≤ i.0 → f ≡ take_from e (64 * j.0 + i.0) x → f ≡ off_between u v x e
      unfolding off_between lower
      between_more h k l p = rw (h, k, le-ltb i.0 j.0 l, p)
