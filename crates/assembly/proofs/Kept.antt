-- The lengths that the assembly keeps. Assumes nothing.
use mathlib.Core.Path.{◌≡◌, refl, ◌∙◌}
use mathlib.Core.Bool.{Bool, false}
use mathlib.Core.List.{List}
use Prim.Native.Nat.{ℕ, zero, suc}
use lib.ListN.{length, get_or}
use lib.Ieee.{Float, nan}
use Rattle.layout.specs.declared.places.Layout.{Layout}
use Rattle.links.specs.Links.{link_of}
use Rattle.constants.specs.Constants.{small_value}
use Rattle.columns.specs.Columns.{cleared}
use Rattle.numbering.specs.Numbering.{row_at, Row}
use Rattle.scatter.specs.Scatter.{on_diagonal}
use Rattle.assembly.specs.Assembly.{System, system, View, with_links, demands_taken, right_of, ground_of, grounded_of, assemble_of}
use Rattle.drawing.specs.Drawing.{counting}
use Rattle.bends.specs.Bends.{bent_matrix, bent_right}
use Rattle.bends.proofs.Laws.{bent_matrix_long, bent_right_long}
use Rattle.columns.proofs.Laws.{cleared_long}
use Rattle.rows.proofs.Lengths.{off_row_long, on_diagonal_long}
use Rattle.scatter.proofs.Lengths.{either_long}
use Rattle.link_rows.proofs.Lengths.{SameLengths, same, link_long}

pub links_long : (s : List ℕ) (l : Layout) (v : View) (j : ℕ) (a : System) → SameLengths (with_links s l v j a) a
unfolding with_links
links_long s l v zero a = same a
links_long s l v (suc j) a = link_long s l v (link_of s l j) j (with_links s l v j a) a (links_long s l v j a)

pub demands_long : (s : List ℕ) (l : Layout) (d : List Float) (i : ℕ) (r : List Float) → length (demands_taken s l d i r) ≡ length r
unfolding demands_taken
demands_long s l d zero r = refl
demands_long s l d (suc i) r = off_row_long (row_at s l i) (get_or d i nan) (demands_taken s l d i r) ∙ demands_long s l d i r

ground_long : (b : Bool) (row : Row) (m : List Float) → length (ground_of b row m) ≡ length m
unfolding ground_of
ground_long b row m = either_long b (on_diagonal row small_value m) m m (on_diagonal_long row small_value m) refl

pub grounded_long : (s : List ℕ) (l : Layout) (marks : List Bool) (i : ℕ) (m : List Float) → length (grounded_of s l marks i m) ≡ length m
unfolding grounded_of
grounded_long s l marks zero m = refl
grounded_long s l marks (suc i) m = ground_long (get_or marks i false) (row_at s l i) (grounded_of s l marks i m) ∙ grounded_long s l marks i m

pub right_long : (s : List ℕ) (l : Layout) (demands drawn r : List Float) → length (right_of s l demands drawn r) ≡ length r
unfolding right_of
right_long s l demands drawn r = demands_long s l (counting l.pressures drawn demands) l.nodes (bent_right s l demands drawn r) ∙ bent_right_long s l demands drawn r

pub assemble_long : (s : List ℕ) (l : Layout) (v : View) (demands drawn : List Float) (marks : List Bool) (a : System) → SameLengths (assemble_of s l v demands drawn marks a) a
unfolding assemble_of
assemble_long s l v demands drawn marks a =
    let w : System = system (cleared 4096 a.matrix) (cleared 64 a.rhs) a.g a.y in
    let d = links_long s l v l.links w in
    record {
      matrix =
          grounded_long s l marks l.nodes (bent_matrix s l demands drawn (with_links s l v l.links w).matrix)
          ∙ bent_matrix_long s l demands drawn (with_links s l v l.links w).matrix
          ∙ d.matrix ∙ cleared_long 4096 a.matrix;
      rhs = right_long s l demands drawn (with_links s l v l.links w).rhs ∙ d.rhs ∙ cleared_long 64 a.rhs;
      g = d.g;
      y = d.y;
    }
