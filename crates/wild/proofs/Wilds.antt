-- The search of refusal 7, and the cases of its place. Assumes nothing.
use mathlib.Core.Path.{◌≡◌, refl, sym, ◌∙◌, subst}
use mathlib.Core.Bool.{Bool, true, false, not, cond}
use mathlib.Core.List.{List}
use Prim.Native.Nat.{ℕ, zero, suc, ◌+◌, ◌-◌, ◌≤◌, ◌<◌}
use native.Mathlib.Numerals.{add-one}
use native.Mathlib.Omega.{arith}
use lib.ListN.{get_or}
use lib.Ieee.{Float, nan}
use Rattle.float.specs.Order.{wild_of}
use Rattle.layout.specs.declared.places.Layout.{Layout}
use Rattle.found.specs.Searches.{or_else, first_from, first_of}
use Rattle.wild.specs.Wild.{wild_from, first_wild, past, wild_drawn, wild_place}
use Rattle.std.specs.Prelude.{None, Option, Some}

-- ---- the loop

none_left : (x : List Float) (i : ℕ) → wild_from x 0 i ≡ None
unfolding wild_from
none_left x i = refl

one_left : (x : List Float) (k i : ℕ) → wild_from x (suc k) i ≡ cond (wild_of (get_or x i nan)) (Some i) (wild_from x k (suc i))
unfolding wild_from
one_left x k i = refl

-- it is the first number that the test holds of
first_from_wild : (x : List Float) (k i : ℕ) → first_from (λ j. wild_of (get_or x j nan)) k i ≡ wild_from x k i
unfolding first_from wild_from
first_from_wild x zero i = refl
first_from_wild x (suc k) i = rw (first_from_wild x k (suc i))

pub first_of_wild : (x : List Float) (k : ℕ) → first_of (λ j. wild_of (get_or x j nan)) k ≡ first_wild x k
unfolding first_of first_wild
first_of_wild x k = first_from_wild x k 0

-- ---- what is found is one of the entries

from_below : (x : List Float) (k i p : ℕ) → wild_from x k i ≡ Some p → p < i + k
from_below x zero i p e = absurd (let f : None ≡ Some p = sym (none_left x i) ∙ e in let z : ◌≡◌ {A = ℕ} 0 1 = cc in omega arith)
from_below x (suc k) i p e = go (wild_of (get_or x i nan)) (sym (one_left x k i) ∙ e) (λ f. from_below x k (suc i) p f)
  where
    go : (b : Bool) → cond b (Some i) (wild_from x k (suc i)) ≡ Some p → (wild_from x k (suc i) ≡ Some p → p < suc i + k) → p < i + suc k
    go true f rest = let g : i ≡ p = cc in omega arith
    go false f rest = omega (arith, rest f)

pub found_below : (x : List Float) (k p : ℕ) → first_wild x k ≡ Some p → p < k
unfolding first_wild
found_below x k p e = omega (arith, from_below x k 0 p e)

-- ---- the place: a node, else 64 and a link, else 256 and a node

flag_other : (b : Bool) → b ≡ true → b ≡ false → (X : Type 0) → X
flag_other b t f X = absurd (let z : ◌≡◌ {A = ℕ} 0 1 = cc in omega arith)

module _ (l : Layout) (x : List Float) where
  pub drawn_none : not l.pressures ≡ true → None ≡ wild_drawn l x
  unfolding wild_drawn
  drawn_none e = go l.pressures e
    where
      go : (b : Bool) → not b ≡ true → None ≡ cond b (past 256 (first_wild x l.nodes)) None
      go true f = flag_other _ f refl _
      go false f = refl

  pub drawn_found : (f : Option ℕ) → not l.pressures ≡ false → first_wild x l.nodes ≡ f → past 256 f ≡ wild_drawn l x
  unfolding wild_drawn
  drawn_found f e k = go l.pressures e
    where
      go : (b : Bool) → not b ≡ false → past 256 f ≡ cond b (past 256 (first_wild x l.nodes)) None
      go true g = rw k
      go false g = flag_other _ refl g _

  -- what is found is 256 and a node
  pub drawn_below : (p : ℕ) → wild_drawn l x ≡ Some p → (256 ≤ p) × (p < 256 + l.nodes)
  unfolding wild_drawn
  drawn_below p e = go l.pressures (first_wild x l.nodes) refl e
    where
      none : None ≡ Some p → (256 ≤ p) × (p < 256 + l.nodes)
      none f = absurd (let z : ◌≡◌ {A = ℕ} 0 1 = cc in omega arith)

      go : (b : Bool) (f : Option ℕ) → first_wild x l.nodes ≡ f → cond b (past 256 f) None ≡ Some p → (256 ≤ p) × (p < 256 + l.nodes)
      go true (Some i) k w = let q : 256 + i ≡ p = cc in (omega arith, omega (arith, found_below x l.nodes i k))
      go true None k w = none w
      go false f k w = none w

module _ (l : Layout) (h q x : List Float) where
  pub wild_node : (p : ℕ) → first_wild h l.nodes ≡ Some p → Some p ≡ wild_place l h q x
  unfolding wild_place
  wild_node p e = rw e

  pub wild_link : (p : ℕ) → first_wild h l.nodes ≡ None → first_wild q l.links ≡ Some p → Some (64 + p) ≡ wild_place l h q x
  unfolding wild_place
  wild_link p e f = rw (e, f)

  pub wild_last : (r : Option ℕ) → first_wild h l.nodes ≡ None → first_wild q l.links ≡ None → r ≡ wild_drawn l x → r ≡ wild_place l h q x
  unfolding wild_place
  wild_last r e f k = rw (e, f) k

  pub wild_cases : (p : ℕ) (X : Type 0) → (first_wild h l.nodes ≡ Some p → X) → ((j : ℕ) → first_wild q l.links ≡ Some j → 64 + j ≡ p → X) → (wild_drawn l x ≡ Some p → X) → wild_place l h q x ≡ Some p → X
  unfolding wild_place
  wild_cases p X node link draws e = go (first_wild h l.nodes) refl (first_wild q l.links) refl e
    where
      go : (f : Option ℕ) → first_wild h l.nodes ≡ f → (g : Option ℕ) → first_wild q l.links ≡ g → or_else f (or_else (past 64 g) (wild_drawn l x)) ≡ Some p → X
      go (Some i) u g v w = node (u ∙ w)
      go None u (Some j) v w = link j v (cc)
      go None u None v w = draws w

-- every place of 7 is below 320
pub wild_below : (l : Layout) (h q x : List Float) (p : ℕ) → l.nodes ≤ 64 → l.links ≤ 128 → wild_place l h q x ≡ Some p → p < 320
wild_below l h q x p few some e =
    wild_cases l h q x p (p < 320) (λ w. omega (arith, found_below h l.nodes p w)) (λ j w z. omega (arith, found_below q l.links j w)) (λ w. omega (arith, (drawn_below l x p w).1)) e
