-- The excess flows: one turn of each loop, and what the steps keep, as laws of their definitions. Assumes nothing.
use mathlib.Core.Path.{◌≡◌, refl, sym, ap, ◌∙◌}
use mathlib.Core.Bool.{Bool, true, false, cond, ◌||◌}
use mathlib.Core.List.{List}
use Prim.Native.Nat.{ℕ, zero, suc, ◌+◌, ◌≤◌, ◌<◌}
use native.Mathlib.Omega.{arith}
use native.Mathlib.Numerals.{add-one}
use lib.ListN.{length, get_or, set, length-set}
use lib.Ieee.{Float, nan, binary64, of_bits, sub}
use Rattle.links.specs.Links.{link_start, link_end, regulator}
use Rattle.layout.specs.declared.places.Layout.{Layout}
use Rattle.columns.specs.Columns.{cleared, add_to, take_from}
use Rattle.columns.proofs.Laws.{add_long, take_long}
use Rattle.excess.specs.Excess.{present, minus_zero, less_demands, shifted, with_flows, imbalance_of, excess_of}

-- a number of a node is a place of a column over the nodes
pub below : {j k n m l : ℕ} → k < n → j ≡ k → n ≤ l → m ≡ l → j < m
below h e g f = omega arith

pub present_none : (s : List ℕ) (l : Layout) → false ≡ present s l 0
unfolding present
present_none s l = refl

pub present_next : (s : List ℕ) (l : Layout) (i : ℕ) (found is : Bool) → found ≡ present s l i → is ≡ regulator s l i → (found || is) ≡ present s l (i + 1)
unfolding present
present_next s l i found is h p = rw (add-one i, h, p)

pub demands_none : (d e : List Float) → e ≡ less_demands d 0 e
unfolding less_demands
demands_none d e = refl

pub demands_next : (d : List Float) (i : ℕ) (e₀ e : List Float) → e ≡ less_demands d i e₀ → set e i (sub binary64 minus_zero (get_or d i nan)) ≡ less_demands d (i + 1) e₀
unfolding less_demands
demands_next d i e₀ e h = rw (add-one i, h)

pub shifted_of : (e f g : List Float) (a b : ℕ) (q : Float) → f ≡ take_from e a q → g ≡ add_to f b q → g ≡ shifted e a b q
unfolding shifted
shifted_of e f g a b q h k = rw (k, h)

pub shifted_long : (e : List Float) (a b : ℕ) (q : Float) → length (shifted e a b q) ≡ length e
unfolding shifted
shifted_long e a b q = add_long (take_from e a q) b q ∙ take_long e a q

pub flows_none : (s : List ℕ) (l : Layout) (q e : List Float) → e ≡ with_flows s l q 0 e
unfolding with_flows
flows_none s l q e = refl

pub flows_next : (s : List ℕ) (l : Layout) (q : List Float) (i : ℕ) (e₀ e f : List Float) (a b : ℕ) → a ≡ link_start s l i → b ≡ link_end s l i
    → e ≡ with_flows s l q i e₀ → f ≡ shifted e a b (get_or q i nan) → f ≡ with_flows s l q (i + 1) e₀
unfolding with_flows
flows_next s l q i e₀ e f a b ha hb h k = rw (add-one i, k, h, ha, hb)

pub imbalance_of_lem : (s : List ℕ) (l : Layout) (d q e f g : List Float) → f ≡ less_demands d l.nodes e → g ≡ with_flows s l q l.links f → g ≡ imbalance_of s l d q e
unfolding imbalance_of
imbalance_of_lem s l d q e f g p r = rw (r, p)

module _ (s : List ℕ) (l : Layout) (d q e : List Float) (found : Bool) (told : found ≡ present s l l.links) where
  pub excess_with : (g : List Float) → found ≡ true → g ≡ imbalance_of s l d q e → g ≡ excess_of s l d q e
  unfolding excess_of
  excess_with g t p = rw (p, sym told ∙ t)

  pub excess_without : (g : List Float) → found ≡ false → g ≡ cleared l.nodes e → g ≡ excess_of s l d q e
  unfolding excess_of
  excess_without g t p = rw (p, sym told ∙ t)
