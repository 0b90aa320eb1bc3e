-- One node, and the search, as laws of the definitions. Assumes nothing.
use mathlib.Core.Path.{◌≡◌, refl}
use mathlib.Core.Bool.{Bool, ◌&&◌}
use mathlib.Core.List.{List}
use Prim.Native.Nat.{ℕ}
use lib.ListN.{get_or}
use lib.Ieee.{Float, nan}
use Rattle.layout.specs.declared.places.Layout.{Layout}
use Rattle.found.specs.Searches.{first_of}
use Rattle.records.specs.declared.records.Node.{Node}
use Rattle.constants.specs.Arithmetic.{minus}
use Rattle.nodes.specs.Nodes.{node_of, in_service}
use Rattle.pressures_low.specs.Low.{too_low, low_at, low_of}

module _ (s : List ℕ) (l : Layout) (heads : List Float) (lowest : Float) where
  pub low_of_lem : (i : ℕ) (n : Node) (serves low : Bool) → n ≡ node_of s l i → serves ≡ in_service s l i → low ≡ too_low n.demand (minus (get_or heads i nan) n.elevation) lowest → (serves && low) ≡ low_at s l heads lowest i
  unfolding low_at
  low_of_lem i n serves low en es e = rw (e, es, en)

  pub low_first : first_of (low_at s l heads lowest) l.nodes ≡ low_of s l heads lowest
  unfolding low_of
  low_first = refl
