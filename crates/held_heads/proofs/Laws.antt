-- The node that a link holds, one link, and the search, as laws of the definitions. Assumes nothing.
use mathlib.Core.Path.{◌≡◌, refl}
use mathlib.Core.Bool.{Bool, not, ◌&&◌}
use mathlib.Core.List.{List}
use Prim.Native.Nat.{ℕ, ◌<◌}
use lib.Dec.{eqb}
use lib.ListN.{get_or}
use lib.Ieee.{Float, nan}
use Rattle.codes.specs.declared.LinkKind.{LinkKind}
use Rattle.codes.specs.declared.LinkKind.TheVariants.{Pipe, Prv, Psv, Pbv, Fcv, Tcv, Pcv}
use Rattle.layout.specs.declared.places.Layout.{Layout}
use Rattle.found.specs.Searches.{first_of}
use Rattle.records.specs.declared.records.Link.{Link}
use Rattle.constants.specs.Arithmetic.{plus, minus}
use Rattle.nodes.specs.Nodes.{enabled, elevation_of}
use Rattle.links.specs.Links.{EndsIn, link_of, link_start, link_end, regulator}
use Rattle.links.proofs.Reading.{start_below, end_below}
use Rattle.tolerance.specs.Within.{within_of}
use Rattle.held_heads.specs.Held.{held_by, held_node, holds_at, set_head, miss_of, misses_at, unheld_of}

-- it is one of the link's ends, and so a node
either_end : (kind : LinkKind) (start end n : ℕ) → start < n → end < n → held_by kind start end < n
either_end Pipe start end n a b = a
either_end Prv start end n a b = b
either_end Psv start end n a b = a
either_end Pbv start end n a b = a
either_end Fcv start end n a b = a
either_end Tcv start end n a b = a
either_end Pcv start end n a b = a

module _ (s : List ℕ) (l : Layout) (j : ℕ) where
  module _ (k : Link) (i : ℕ) (read : k ≡ link_of s l j) (held : i ≡ held_by k.kind k.start k.end) where
    pub held_below : EndsIn l s → j < l.links → i < l.nodes
    held_below ends here = rw held (either_end k.kind k.start k.end l.nodes (start_below s l j k ends here read) (end_below s l j k ends here read))

    pub miss-of : (heads : List Float) (up : Float) → up ≡ elevation_of s l i → minus (get_or heads i nan) (plus k.setting up) ≡ miss_of s l heads j
    unfolding miss_of set_head held_node
    miss-of heads up e = rw (e, held, read)

  pub holds_of : (codes : List ℕ) (a b : ℕ) (m n is : Bool) → a ≡ link_start s l j → b ≡ link_end s l j → m ≡ enabled s l a → n ≡ enabled s l b → is ≡ regulator s l j
      → (is && (eqb (get_or codes j 0) 2 && (m && n))) ≡ holds_at s l codes j
  unfolding holds_at
  holds_of codes a b m n is ea eb em en ei = rw (ei, em, en, ea, eb)

  pub misses_of : (heads : List Float) (codes : List ℕ) (head off : Float) (held fine : Bool) → held ≡ holds_at s l codes j → off ≡ miss_of s l heads j → fine ≡ within_of off head
      → (held && not fine) ≡ misses_at s l heads codes head j
  unfolding misses_at
  misses_of heads codes head off held fine eh eo ef = rw (ef, eo, eh)

pub unheld_first : (s : List ℕ) (l : Layout) (heads : List Float) (codes : List ℕ) (head : Float) → first_of (misses_at s l heads codes head) l.links ≡ unheld_of s l heads codes head
unfolding unheld_of
unheld_first s l heads codes head = refl
