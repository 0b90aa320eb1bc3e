-- One link: what each function makes, as laws of the definitions. Assumes nothing.
use mathlib.Core.Path.{◌≡◌, sym, ap, ◌∙◌}
use mathlib.Core.Bool.{Bool, true, false, ◌&&◌}
use mathlib.Core.List.{List}
use Prim.Native.Nat.{ℕ, ◌+◌, ◌<◌}
use native.Mathlib.Omega.{arith}
use lib.ListN.{get_or, set}
use lib.Ieee.{Float, nan}
use Rattle.layout.specs.declared.places.Layout.{Layout}
use Rattle.codes.specs.Codes.{status_of}
use Rattle.codes.specs.declared.Status.{Status}
use Rattle.records.specs.declared.records.Link.{Link}
use Rattle.links.specs.Links.{link_of}
use Rattle.model.specs.Rules.{coefficients_of}
use Rattle.coefficient.specs.declared.Coefficients.{Coefficients}
use Rattle.nodes.specs.Nodes.{enabled, fixed_node, elevation_of}
use Rattle.numbering.specs.Numbering.{row_at, Row}
use Rattle.scatter.specs.Scatter.{link_matrix, link_row}
use Rattle.link_rows.specs.LinkRows.{System, system, View, coefficients_at, link_placed, link_added}

pub coefficients_of_lem : (s : List ℕ) (l : Layout) (flows : List Float) (statuses : List ℕ) (excess : List Float) (k : Link) (j : ℕ) (status : Status) (up down : Float) (c : Coefficients)
    → status ≡ status_of (get_or statuses j 0) → up ≡ elevation_of s l k.start → down ≡ elevation_of s l k.end
    → c ≡ coefficients_of k status (get_or flows j nan) (get_or excess k.start nan) (get_or excess k.end nan) up down
    → c ≡ coefficients_at s l flows statuses excess k j
unfolding coefficients_at
coefficients_of_lem s l flows statuses excess k j status up down c a b d h = rw (h, a, b, d)

pub placed : (s : List ℕ) (l : Layout) (v : View) (k : Link) (c : Coefficients) (j : ℕ) (ru rv : Row) (fu fv : Bool) (m m₁ r r₁ g y : List Float)
    → ru ≡ row_at s l k.start → rv ≡ row_at s l k.end → fu ≡ fixed_node s l k.start → fv ≡ fixed_node s l k.end
    → m₁ ≡ link_matrix ru rv c m
    → r₁ ≡ link_row ru rv c (get_or v.flows j nan) fu fv (get_or v.heads k.start nan) (get_or v.heads k.end nan) r
    → system m₁ r₁ (set g j c.conductance) (set y j c.offset) ≡ link_placed s l v k c j (system m r g y)
unfolding link_placed
placed s l v k c j ru rv fu fv m m₁ r r₁ g y a b d e p q = rw (p, q, a, b, d, e)

module _ (s : List ℕ) (l : Layout) (v : View) (j : ℕ) (k : Link) (read : k ≡ link_of s l j) (m n : Bool) (hm : m ≡ enabled s l k.start) (hn : n ≡ enabled s l k.end) (a : System) where
  pub link_in : (c : Coefficients) (a₁ : System) → (m && n) ≡ true → c ≡ coefficients_at s l v.flows v.statuses v.excess k j → a₁ ≡ link_placed s l v k c j a → a₁ ≡ link_added s l v (link_of s l j) j a
  unfolding link_added
  link_in c a₁ h e p =
      let on : (enabled s l k.start && enabled s l k.end) ≡ true = rw (← hm, ← hn) h in
      rw (← read, on, ← e) p

  pub link_out : (m && n) ≡ false → a ≡ link_added s l v (link_of s l j) j a
  unfolding link_added
  link_out h =
      let off : (enabled s l k.start && enabled s l k.end) ≡ false = rw (← hm, ← hn) h in
      rw (← read, off)
