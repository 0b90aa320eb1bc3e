-- The assembly: one turn of each loop, and the whole, as laws of the definitions. Assumes nothing.
use mathlib.Core.Path.{◌≡◌, refl, ap, ◌∙◌}
use mathlib.Core.Bool.{Bool, true, false}
use mathlib.Core.List.{List}
use Prim.Native.Nat.{ℕ, ◌+◌, ◌≤◌}
use native.Mathlib.Numerals.{add-one}
use native.Mathlib.Omega.{arith}
use lib.ListN.{length, get_or}
use lib.Ieee.{Float, nan}
use Rattle.layout.specs.declared.places.Layout.{Layout}
use Rattle.links.specs.Links.{link_of}
use Rattle.constants.specs.Constants.{small_value}
use Rattle.columns.specs.Columns.{cleared}
use Rattle.numbering.specs.Numbering.{row_at, Row}
use Rattle.scatter.specs.Scatter.{on_diagonal, off_row}
use Rattle.assembly.specs.Assembly.{System, system, Sized, View, link_added, with_links, demands_taken, right_of, ground_of, grounded_of, assemble_of}
use Rattle.drawing.specs.Drawing.{counting}
use Rattle.bends.specs.Bends.{bent_matrix, bent_right}

-- ---- all links

pub links_none : (s : List ℕ) (l : Layout) (v : View) (a : System) → a ≡ with_links s l v 0 a
unfolding with_links
links_none s l v a = refl

pub links_next : (s : List ℕ) (l : Layout) (v : View) (j : ℕ) (a₀ a a₁ : System) → a ≡ with_links s l v j a₀ → a₁ ≡ link_added s l v (link_of s l j) j a → a₁ ≡ with_links s l v (j + 1) a₀
unfolding with_links
links_next s l v j a₀ a a₁ h p = rw (add-one j, p, h)

-- columns of the same lengths have the same room
pub sized_kept : {l : Layout} {m r g y m₁ r₁ g₁ y₁ : List Float} → Sized l (system m r g y) → length m₁ ≡ length m → length r₁ ≡ length r → length g₁ ≡ length g → length y₁ ≡ length y → Sized l (system m₁ r₁ g₁ y₁)
sized_kept d a b e f = record { matrix = a ∙ d.matrix; rhs = omega (arith, d.rhs); g = omega (arith, d.g); y = omega (arith, d.y) }

-- the loop over the links after j of them, with the columns as they are and as they were
pub record Linked (s : List ℕ) (l : Layout) (v : View) (m₀ r₀ g₀ y₀ m r g y : List Float) (j : ℕ) : Type 0 where
  pub upto : j ≤ l.links
  pub made : system m r g y ≡ with_links s l v j (system m₀ r₀ g₀ y₀)
  pub m_long : length m ≡ length m₀
  pub r_long : length r ≡ length r₀
  pub g_long : length g ≡ length g₀
  pub y_long : length y ≡ length y₀

-- ---- demands and grounded diagonals

pub demands_from_lem : (s : List ℕ) (l : Layout) (d r : List Float) → r ≡ demands_taken s l d 0 r
unfolding demands_taken
demands_from_lem s l d r = refl

pub demands_on : (s : List ℕ) (l : Layout) (d : List Float) (i : ℕ) (row : Row) (r₀ r r₁ : List Float) → row ≡ row_at s l i → r ≡ demands_taken s l d i r₀ → r₁ ≡ off_row row (get_or d i nan) r → r₁ ≡ demands_taken s l d (i + 1) r₀
unfolding demands_taken
demands_on s l d i row r₀ r r₁ a h p = rw (add-one i, p, a, h)

pub ground_marked : (b : Bool) (row : Row) (m m₁ : List Float) → b ≡ true → m₁ ≡ on_diagonal row small_value m → m₁ ≡ ground_of b row m
unfolding ground_of
ground_marked b row m m₁ h p = rw (h, p)

pub ground_not : (b : Bool) (row : Row) (m : List Float) → b ≡ false → m ≡ ground_of b row m
unfolding ground_of
ground_not b row m h = rw h

pub grounded_none : (s : List ℕ) (l : Layout) (marks : List Bool) (m : List Float) → m ≡ grounded_of s l marks 0 m
unfolding grounded_of
grounded_none s l marks m = refl

pub grounded_next : (s : List ℕ) (l : Layout) (marks : List Bool) (i : ℕ) (row : Row) (m₀ m m₁ : List Float) → row ≡ row_at s l i → m ≡ grounded_of s l marks i m₀ → m₁ ≡ ground_of (get_or marks i false) row m → m₁ ≡ grounded_of s l marks (i + 1) m₀
unfolding grounded_of
grounded_next s l marks i row m₀ m m₁ a h p = rw (add-one i, p, a, h)

-- ---- the whole

pub right_of_lem : (s : List ℕ) (l : Layout) (demands drawn counted r r₁ r₂ : List Float) → r₁ ≡ bent_right s l demands drawn r → counted ≡ counting l.pressures drawn demands → r₂ ≡ demands_taken s l counted l.nodes r₁ → r₂ ≡ right_of s l demands drawn r
unfolding right_of
right_of_lem s l demands drawn counted r r₁ r₂ e f g = g ∙ ap (λ (d : List Float). demands_taken s l d l.nodes r₁) f ∙ ap (demands_taken s l (counting l.pressures drawn demands) l.nodes) e

pub assembled : (s : List ℕ) (l : Layout) (v : View) (demands drawn : List Float) (marks : List Bool) (m r g y m₁ r₁ m₂ r₂ g₂ y₂ m₃ m₄ r₃ : List Float)
    → m₁ ≡ cleared 4096 m → r₁ ≡ cleared 64 r
    → system m₂ r₂ g₂ y₂ ≡ with_links s l v l.links (system m₁ r₁ g y)
    → m₃ ≡ bent_matrix s l demands drawn m₂
    → r₃ ≡ right_of s l demands drawn r₂
    → m₄ ≡ grounded_of s l marks l.nodes m₃
    → system m₄ r₃ g₂ y₂ ≡ assemble_of s l v demands drawn marks (system m r g y)
unfolding assemble_of
assembled s l v demands drawn marks m r g y m₁ r₁ m₂ r₂ g₂ y₂ m₃ m₄ r₃ a b h f d e = rw (← a, ← b, ← h, d, e, f)
