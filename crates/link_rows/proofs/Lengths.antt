-- The lengths that one link keeps. Assumes nothing.
use mathlib.Core.Path.{◌≡◌, refl, ◌∙◌}
use mathlib.Core.Bool.{Bool, true, false, cond, ◌&&◌}
use mathlib.Core.List.{List}
use Prim.Native.Nat.{ℕ}
use lib.ListN.{length, get_or, length-set}
use lib.Ieee.{Float, nan}
use Rattle.records.specs.declared.records.Link.{Link}
use Rattle.coefficient.specs.declared.Coefficients.{Coefficients}
use Rattle.nodes.specs.Nodes.{enabled, fixed_node}
use Rattle.numbering.specs.Numbering.{row_at}
use Rattle.scatter.proofs.Lengths.{matrix_long, row_long}
use Rattle.layout.specs.declared.places.Layout.{Layout}
use Rattle.link_rows.specs.LinkRows.{System, View, coefficients_at, link_placed, link_added}

-- two systems have their columns of the same lengths
pub record SameLengths (a a₀ : System) : Type 0 where
  pub matrix : length a.matrix ≡ length a₀.matrix
  pub rhs : length a.rhs ≡ length a₀.rhs
  pub g : length a.g ≡ length a₀.g
  pub y : length a.y ≡ length a₀.y

pub same : (a : System) → SameLengths a a
same a = record { matrix = refl; rhs = refl; g = refl; y = refl }

link_placed_long : (s : List ℕ) (l : Layout) (v : View) (k : Link) (c : Coefficients) (j : ℕ) (a a₀ : System) → SameLengths a a₀ → SameLengths (link_placed s l v k c j a) a₀
unfolding link_placed
link_placed_long s l v k c j a a₀ d =
    record {
      matrix = matrix_long (row_at s l k.start) (row_at s l k.end) c a.matrix ∙ d.matrix;
      rhs = row_long (row_at s l k.start) (row_at s l k.end) c (get_or v.flows j nan) (fixed_node s l k.start) (fixed_node s l k.end) (get_or v.heads k.start nan) (get_or v.heads k.end nan) a.rhs ∙ d.rhs;
      g = length-set a.g j c.conductance ∙ d.g;
      y = length-set a.y j c.offset ∙ d.y;
    }

pub link_long : (s : List ℕ) (l : Layout) (v : View) (k : Link) (j : ℕ) (a a₀ : System) → SameLengths a a₀ → SameLengths (link_added s l v k j a) a₀
unfolding link_added
link_long s l v k j a a₀ d = go (enabled s l k.start && enabled s l k.end)
  where
    go : (b : Bool) → SameLengths (cond b (link_placed s l v k (coefficients_at s l v.flows v.statuses v.excess k j) j a) a) a₀
    go true = link_placed_long s l v k (coefficients_at s l v.flows v.statuses v.excess k j) j a a₀ d
    go false = d
