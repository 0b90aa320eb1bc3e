-- No length changes. Assumes nothing.
use mathlib.Core.Path.{◌≡◌, refl}
use mathlib.Core.List.{List}
use Prim.Native.Nat.{ℕ, ◌+◌, ◌*◌}
use lib.ListN.{length}
use lib.Ieee.{Float}
use Rattle.columns.proofs.Laws.{add_long, take_long}
use Rattle.rows.specs.Rows.{on_row, off_row, on_diagonal, lower, off_between}
use Rattle.std.specs.Prelude.{None, Some}
use Rattle.numbering.specs.Numbering.{Row}

pub on_row_long : (row : Row) (x : Float) (r : List Float) → length (on_row row x r) ≡ length r
unfolding on_row
on_row_long (Some u) x r = add_long r u.0 x
on_row_long None x r = refl

pub off_row_long : (row : Row) (x : Float) (r : List Float) → length (off_row row x r) ≡ length r
unfolding off_row
off_row_long (Some u) x r = take_long r u.0 x
off_row_long None x r = refl

pub on_diagonal_long : (row : Row) (x : Float) (m : List Float) → length (on_diagonal row x m) ≡ length m
unfolding on_diagonal
on_diagonal_long (Some u) x m = add_long m (64 * u.0 + u.0) x
on_diagonal_long None x m = refl

pub between_long : (u v : Row) (x : Float) (m : List Float) → length (off_between u v x m) ≡ length m
unfolding off_between
between_long (Some u) (Some v) x m = take_long m (lower u.0 v.0) x
between_long (Some u) None x m = refl
between_long None v x m = refl
