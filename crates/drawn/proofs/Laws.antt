-- The drawn flows: what each function makes, one turn of the loop, and the length that it keeps, as laws of the definitions. Assumes nothing.
use Prim.Native.Nat.{ℕ, zero, suc, ◌+◌, ◌≤◌, ◌<◌}
use mathlib.Core.Path.{◌≡◌, refl, sym, ap, ◌∙◌}
use mathlib.Core.Bool.{Bool, true, false, not, cond, ◌&&◌}
use mathlib.Core.List.{List}
use native.Mathlib.Numerals.{add-one}
use native.Mathlib.Omega.{arith}
use borrow.Author.Tests.{not-true, not-false}
use lib.ListN.{length, get_or, set, length-set}
use lib.Ieee.{Float, nan, lt}
use Rattle.layout.specs.declared.places.Layout.{Layout}
use Rattle.records.specs.Records.{pressures_of}
use Rattle.records.specs.declared.records.Pressures.{Pressures}
use Rattle.constants.specs.Arithmetic.{minus}
use Rattle.constants.specs.Constants as constant
use Rattle.nodes.specs.Nodes.{enabled, in_service, elevation_of}
use Rattle.drawing.specs.Drawing.{gives_way, range_of, bend_of}
use Rattle.drawing.specs.declared.Bend.{Bend}
use Rattle.drawing.proofs.Laws.{with_pressures, without_pressures}
use Rattle.update.specs.Update.{noted}
use Rattle.update.specs.declared.Stats.{Stats}
use Rattle.drawn.specs.Drawn.{Draws, draws, change_of, bent, node_drawn, nodes_drawn, drawn_of}

module _ (s : List ℕ) (l : Layout) (p : Pressures) (h : List Float) (factor : Float) (asked : List Float) where
  -- ---- one node

  pub bent_of : (i : ℕ) (x : List Float) (m m₁ : Stats) (range up dq : Float) (b : Bend) → range ≡ range_of p → b ≡ bend_of (get_or x i nan) (get_or asked i nan) range → up ≡ elevation_of s l i
      → dq ≡ change_of b (get_or h i nan) up p.minimum factor → m₁ ≡ noted dq (minus (get_or x i nan) dq) false m
      → draws (set x i (minus (get_or x i nan) dq)) m₁ ≡ bent s l p h factor asked i (draws x m)
  unfolding bent
  bent_of i x m m₁ range up dq b er eb eu ed em = rw (em, ed, eb, er, eu)

  module _ (i : ℕ) (w : Draws) (on serving : Bool) (is-on : on ≡ enabled s l i) where
    pub node-disabled : not on ≡ true → w ≡ node_drawn s l p h factor asked i w
    unfolding node_drawn
    node-disabled t = rw (sym is-on ∙ not-true on t)

    module _ (gives : Bool) (is_serving : serving ≡ in_service s l i) (does : gives ≡ gives_way serving (get_or asked i nan)) (enabled_is : not on ≡ false) where
      pub node-bends : (w₁ : Draws) → gives ≡ true → w₁ ≡ bent s l p h factor asked i w → w₁ ≡ node_drawn s l p h factor asked i w
      unfolding node_drawn
      node-bends w₁ t e = rw (sym is-on ∙ not-false on enabled_is, ← is_serving, ← does, t) e

      pub node-copied : gives ≡ false → draws (set w.drawn i (get_or asked i nan)) w.stats ≡ node_drawn s l p h factor asked i w
      unfolding node_drawn
      node-copied t = rw (sym is-on ∙ not-false on enabled_is, ← is_serving, ← does, t)

  -- ---- all nodes: after i of them, with the column as it is and as it was

  pub record Drawn (x₀ : List Float) (m₀ : Stats) (x : List Float) (m : Stats) (i : ℕ) : Type 0 where
    pub upto : i ≤ l.nodes
    pub made : draws x m ≡ nodes_drawn s l p h factor asked i (draws x₀ m₀)
    pub long : length x ≡ length x₀

  pub none_drawn : (x : List Float) (m : Stats) → Drawn x m x m 0
  unfolding nodes_drawn
  none_drawn x m = record { upto = omega arith; made = refl; long = refl }

  step_drawn : (i : ℕ) (w₀ w w₁ : Draws) → w ≡ nodes_drawn s l p h factor asked i w₀ → w₁ ≡ node_drawn s l p h factor asked i w → w₁ ≡ nodes_drawn s l p h factor asked (i + 1) w₀
  unfolding nodes_drawn
  step_drawn i w₀ w w₁ e k = rw (add-one i, k, e)

  pub next_drawn : (x₀ : List Float) (m₀ : Stats) (x : List Float) (m : Stats) (x₁ : List Float) (m₁ : Stats) (i : ℕ) → Drawn x₀ m₀ x m i → i < l.nodes → draws x₁ m₁ ≡ node_drawn s l p h factor asked i (draws x m) → length x₁ ≡ length x → Drawn x₀ m₀ x₁ m₁ (i + 1)
  next_drawn x₀ m₀ x m x₁ m₁ i d more e k = record { upto = omega arith; made = step_drawn i (draws x₀ m₀) (draws x m) (draws x₁ m₁) d.made e; long = k ∙ d.long }

  -- ---- the length

  bent_long : (i : ℕ) (w : Draws) → length (bent s l p h factor asked i w).drawn ≡ length w.drawn
  unfolding bent
  bent_long i w = length-set w.drawn i _

  node_long : (i : ℕ) (w : Draws) → length (node_drawn s l p h factor asked i w).drawn ≡ length w.drawn
  unfolding node_drawn
  node_long i w = go (enabled s l i) (gives_way (in_service s l i) (get_or asked i nan))
    where
      go : (a b : Bool) → length (cond a (cond b (bent s l p h factor asked i w) (draws (set w.drawn i (get_or asked i nan)) w.stats)) w).drawn ≡ length w.drawn
      go true true = bent_long i w
      go true false = length-set w.drawn i (get_or asked i nan)
      go false b = refl

  nodes_long : (i : ℕ) (w : Draws) → length (nodes_drawn s l p h factor asked i w).drawn ≡ length w.drawn
  unfolding nodes_drawn
  nodes_long zero w = refl
  nodes_long (suc i) w = node_long i (nodes_drawn s l p h factor asked i w) ∙ nodes_long i w

  pub drawn_whole : (i : ℕ) (w w₁ : Draws) → i ≡ l.nodes → w₁ ≡ nodes_drawn s l p h factor asked i w → w₁ ≡ nodes_drawn s l p h factor asked l.nodes w
  drawn_whole i w w₁ e k = k ∙ ap (λ (n : ℕ). nodes_drawn s l p h factor asked n w) e

module _ (s : List ℕ) (l : Layout) (h : List Float) (factor : Float) (asked : List Float) where
  -- where a PD stands, and where none does
  pub drawn_pressures : (p : Pressures) (w w₁ : Draws) → l.pressures ≡ true → p ≡ pressures_of s → w₁ ≡ nodes_drawn s l p h factor asked l.nodes w → w₁ ≡ drawn_of s l h factor asked w
  unfolding drawn_of
  drawn_pressures p w w₁ t e k = k ∙ ap (λ (v : Pressures). nodes_drawn s l v h factor asked l.nodes w) e ∙ sym (with_pressures l.pressures _ w t)

  pub drawn_none : (w : Draws) → l.pressures ≡ false → w ≡ drawn_of s l h factor asked w
  unfolding drawn_of
  drawn_none w t = sym (without_pressures l.pressures _ w t)

  pub drawn_long : (w : Draws) → length (drawn_of s l h factor asked w).drawn ≡ length w.drawn
  unfolding drawn_of
  drawn_long w = go l.pressures
    where
      go : (b : Bool) → length (cond b (nodes_drawn s l (pressures_of s) h factor asked l.nodes w) w).drawn ≡ length w.drawn
      go true = nodes_long s l (pressures_of s) h factor asked l.nodes w
      go false = refl
