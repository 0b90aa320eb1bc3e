-- Which entries of the matrix no link fills, nor a demand that gives way. Definitions only.
use Rattle.std.specs.Prelude.{ℕ, ◌+◌, ◌*◌, ◌<◌, ◌≡◌, Bool, true, false, ◌&&◌, List, get_or, Float, Some}
use Rattle.layout.specs.declared.places.Layout.{Layout}
use Rattle.links.specs.Links.{link_of}
use Rattle.linear.specs.declared.factorization.UnknownIndex.{UnknownIndex}
use Rattle.nodes.specs.Nodes.{enabled}
use Rattle.numbering.specs.Numbering.{row_at, Row}
use Rattle.bends.specs.Bends.{bends}
use Rattle.scatter.specs.Scatter.{lower}

-- entry p is not the diagonal of a row
pub record OffDiagonal (row : Row) (p : ℕ) : Type 0 where
  pub off : (u : UnknownIndex) → row ≡ Some u → p ≡ 64 * u.0 + u.0 → ⊥

-- nor one of the three places of a link between two rows
pub record Apart (u v : Row) (p : ℕ) : Type 0 where
  pub start : OffDiagonal u p
  pub end : OffDiagonal v p
  pub between : (i j : UnknownIndex) → u ≡ Some i → v ≡ Some j → p ≡ lower i.0 j.0 → ⊥

-- no link in service has entry p among its places, and no node grounded, nor, where a PD stands, one whose demand gives way, has it as its diagonal
pub record Unfilled (s : List ℕ) (l : Layout) (demands : List Float) (marks : List Bool) (p : ℕ) : Type 0 where
  pub links : (i : ℕ) → i < l.links → (enabled s l (link_of s l i).start && enabled s l (link_of s l i).end) ≡ true
      → Apart (row_at s l (link_of s l i).start) (row_at s l (link_of s l i).end) p
  pub nodes : (i : ℕ) → i < l.nodes → get_or marks i false ≡ true → OffDiagonal (row_at s l i) p
  pub giving : l.pressures ≡ true → (i : ℕ) → i < l.nodes → bends s l demands i ≡ true → OffDiagonal (row_at s l i) p
