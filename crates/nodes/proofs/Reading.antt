-- What is read of a node, as laws of the definitions. Assumes nothing.
use mathlib.Core.Path.{◌≡◌, refl, ap, ◌∙◌}
use mathlib.Core.Bool.{Bool, true, false, not, cond, ◌&&◌}
use mathlib.Core.List.{List}
use Prim.Native.Nat.{ℕ, zero, suc, ◌+◌, ◌≤◌, ◌<◌}
use native.Mathlib.Numerals.{add-one}
use native.Mathlib.Omega.{arith}
use lib.Dec.{eqb}
use lib.ListN.{get_or}
use lib.Ieee.{Float}
use Rattle.patterns.specs.Bytes.{from_bytes}
use Rattle.layout.specs.Places.{node_place}
use Rattle.layout.specs.declared.places.Layout.{Layout}
use Rattle.records.specs.Records.{node_at}
use Rattle.records.specs.declared.records.Node.{Node}
use Rattle.nodes.specs.Nodes.{node_of, enabled, fixed_node, in_service, tank_at, elevation_of, serving}

module _ (s : List ℕ) (l : Layout) (i at : ℕ) (here : at ≡ node_place l i) where
  pub node_is : (r : Node) → r ≡ node_at s at → r ≡ node_of s l i
  unfolding node_of
  node_is r h = rw (h, here)

  pub enabled_is : eqb (get_or s (at + 3) 0) 0 ≡ enabled s l i
  unfolding enabled
  enabled_is = rw here

  pub fixed_is : not (eqb (get_or s (at + 2) 0) 0) ≡ fixed_node s l i
  unfolding fixed_node
  fixed_is = rw here

  pub in_service_is : (eqb (get_or s (at + 2) 0) 0 && eqb (get_or s (at + 3) 0) 0) ≡ in_service s l i
  unfolding in_service
  in_service_is = rw here

  pub tank_is : eqb (get_or s (at + 2) 0) 2 ≡ tank_at s l i
  unfolding tank_at
  tank_is = rw here

  pub elevation_is : (x : Float) → x ≡ from_bytes s (at + 4) → x ≡ elevation_of s l i
  unfolding elevation_of
  elevation_is x h = rw (h, here)

-- ---- counting the junctions in service

module _ (s : List ℕ) (l : Layout) where
  -- after i nodes
  pub record Counted (count i : ℕ) : Type 0 where
    pub upto : i ≤ l.nodes
    pub counted : count ≡ serving s l i
    pub few : count ≤ i

  pub none_yet : Counted 0 0
  unfolding serving
  none_yet = record { upto = omega arith; counted = refl; few = omega arith }

  pub one_more : (count i next : ℕ) → Counted count i → i < l.nodes → next ≡ count + 1 → in_service s l i ≡ true → Counted next (i + 1)
  unfolding serving
  one_more count i next w more e h = record { upto = omega arith; counted = rw (add-one i, e, add-one count, w.counted, h); few = omega (arith, w.few) }

  pub same : (count i next : ℕ) → Counted count i → i < l.nodes → next ≡ count → in_service s l i ≡ false → Counted next (i + 1)
  unfolding serving
  same count i next w more e h = record { upto = omega arith; counted = rw (add-one i, e, w.counted, h); few = omega (arith, w.few) }

  pub serving_few : (i : ℕ) → serving s l i ≤ i
  unfolding serving
  serving_few zero = omega arith
  serving_few (suc i) = go (in_service s l i) (serving_few i)
    where
      go : (b : Bool) → serving s l i ≤ i → cond {A = ℕ} b (suc (serving s l i)) (serving s l i) ≤ suc i
      go true h = omega arith
      go false h = omega arith
