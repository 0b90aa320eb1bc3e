-- The search for a regulator, and the three ways of a repair, over plain variables. Assumes nothing.
use Prim.Native.Nat.{ℕ, zero, suc, ◌+◌, ◌<◌}
use mathlib.Core.Path.{◌≡◌, refl, sym, ap, ◌∙◌}
use mathlib.Core.List.{List, [], ◌∷◌, ◌++◌}
use mathlib.Core.Bool.{Bool, true, false, cond, ◌&&◌}
use native.Mathlib.Omega.{arith}
use lib.Dec.{eqb}
use lib.ListN.{get_or, set}
use Rattle.layout.specs.declared.places.Layout.{Layout}
use Rattle.links.specs.Links.{link_start, link_end, regulator}
use Rattle.touching.specs.Touching.{touches_at, touching_at}
use Rattle.entries.specs.declared.Entry.TheVariants.{Freed, Grounded, Singular}
use Rattle.repair.specs.Repair.{touches, regulates_at, regulator_from, regulator_at, repaired, ground_node, free, repair_at}
use Rattle.std.specs.Prelude.{None, Option, Some}

-- ---- the search over the links that touch the node

-- what was found first, else what was found then
or_else : Option ℕ → Option ℕ → Option ℕ
or_else (Some j) g = Some j
or_else None g = g

-- the first of some links that is an Active PRV or PSV at node i
unfoldable pub first_in : List ℕ → Layout → List ℕ → ℕ → List ℕ → Option ℕ
first_in s l codes i [] = None
first_in s l codes i (j ∷ x) = cond (regulates_at s l codes i j) (Some j) (first_in s l codes i x)

module _ (s : List ℕ) (l : Layout) (codes : List ℕ) (node : ℕ) where
  -- a link that touches the node is looked for by its kind and status; one that does not is passed over
  pub regulates_touching : (j : ℕ) (b : Bool) → touches_at (link_start s l) (link_end s l) node j ≡ true → b ≡ (regulator s l j && eqb (get_or codes j 0) 2) → b ≡ regulates_at s l codes node j
  unfolding regulates_at touches touches_at
  regulates_touching j b t e = rw (e, t)

  passed_over_lem : (j : ℕ) → touches_at (link_start s l) (link_end s l) node j ≡ false → regulates_at s l codes node j ≡ false
  unfolding regulates_at touches touches_at
  passed_over_lem j t = rw t (go (regulator s l j))
    where
      go : (b : Bool) → (b && false) ≡ false
      go true = refl
      go false = refl

  -- one link more at the end
  first_snoc : (x : List ℕ) (j : ℕ) → first_in s l codes node (x ++ (j ∷ [])) ≡ or_else (first_in s l codes node x) (first_in s l codes node (j ∷ []))
  unfolding first_in or_else
  first_snoc [] j = refl
  first_snoc (k ∷ x) j = go (regulates_at s l codes node k) (first_snoc x j)
    where
      go : (b : Bool) → first_in s l codes node (x ++ (j ∷ [])) ≡ or_else (first_in s l codes node x) (first_in s l codes node (j ∷ []))
          → cond b (Some k) (first_in s l codes node (x ++ (j ∷ []))) ≡ or_else (cond b (Some k) (first_in s l codes node x)) (first_in s l codes node (j ∷ []))
      go true e = refl
      go false e = e

  from_snoc : (m j : ℕ) → regulator_from s l codes node (suc m) j ≡ or_else (regulator_from s l codes node m j) (first_in s l codes node ((j + m) ∷ []))
  unfolding regulator_from first_in or_else
  from_snoc zero j = let e : j + 0 ≡ j = omega arith in rw e
  from_snoc (suc m) j = go (regulates_at s l codes node j) (from_snoc m (suc j))
    where
      go : (b : Bool) → regulator_from s l codes node (suc m) (suc j) ≡ or_else (regulator_from s l codes node m (suc j)) (first_in s l codes node ((suc j + m) ∷ []))
          → cond b (Some j) (regulator_from s l codes node (suc m) (suc j)) ≡ or_else (cond b (Some j) (regulator_from s l codes node m (suc j))) (first_in s l codes node ((j + suc m) ∷ []))
      go true e = refl
      go false e = let q : j + suc m ≡ suc j + m = omega arith in rw q e

  -- the search over all links finds what the one over those at the node finds
  pub search_touching : (m : ℕ) → regulator_from s l codes node m 0 ≡ first_in s l codes node (touching_at (link_start s l) (link_end s l) m node)
  unfolding or_else regulator_from first_in touching_at
  search_touching zero = refl
  search_touching (suc m) = from_snoc m 0 ∙ ap (λ (k : ℕ). or_else (regulator_from s l codes node m 0) (first_in s l codes node (k ∷ []))) (let e : 0 + m ≡ m = omega arith in e) ∙ go (touches_at (link_start s l) (link_end s l) node m) refl (search_touching m)
    where
      none : (f : Option ℕ) → or_else f None ≡ f
      none (Some j) = refl
      none None = refl

      go : (b : Bool) → touches_at (link_start s l) (link_end s l) node m ≡ b → regulator_from s l codes node m 0 ≡ first_in s l codes node (touching_at (link_start s l) (link_end s l) m node)
          → or_else (regulator_from s l codes node m 0) (first_in s l codes node (m ∷ [])) ≡ first_in s l codes node (cond b (touching_at (link_start s l) (link_end s l) m node ++ (m ∷ [])) (touching_at (link_start s l) (link_end s l) m node))
      go true t e = rw e (sym (first_snoc (touching_at (link_start s l) (link_end s l) m node) m))
      go false t e = rw (passed_over_lem m t) (none (regulator_from s l codes node m 0) ∙ e)

  pub regulator_touching : first_in s l codes node (touching_at (link_start s l) (link_end s l) l.links node) ≡ regulator_at s l codes node
  unfolding regulator_at
  regulator_touching = sym (search_touching l.links)

  -- the search: one link more is passed, the link found, the end
  pub regulator_next : (x y : List ℕ) (j : ℕ) → x ≡ j ∷ y → regulates_at s l codes node j ≡ false → first_in s l codes node y ≡ first_in s l codes node x
  unfolding first_in
  regulator_next x y j c e = rw (c, e)

  pub regulator_found : (x y : List ℕ) (j : ℕ) → x ≡ j ∷ y → regulates_at s l codes node j ≡ true → Some j ≡ first_in s l codes node x
  unfolding first_in
  regulator_found x y j c e = rw (c, e)

  pub regulator_none : (x : List ℕ) → x ≡ [] → None ≡ first_in s l codes node x
  unfolding first_in
  regulator_none x c = rw c

  -- the link found is one of the links, and is as was looked for
  pub found_at : (k i j : ℕ) → regulator_from s l codes node k i ≡ Some j → (j < i + k) × (regulates_at s l codes node j ≡ true)
  unfolding regulator_from
  found_at zero i j e = absurd (let z : ◌≡◌ {A = ℕ} 0 1 = cc in let y : ⊥ = omega arith in y)
  found_at (suc k) i j e = go (regulates_at s l codes node i) refl (found_at k (suc i) j) e
    where
      go : (b : Bool) → regulates_at s l codes node i ≡ b → (regulator_from s l codes node k (suc i) ≡ Some j → (j < suc i + k) × (regulates_at s l codes node j ≡ true))
          → cond b (Some i) (regulator_from s l codes node k (suc i)) ≡ Some j → (j < i + suc k) × (regulates_at s l codes node j ≡ true)
      go true t ih e = let p : i ≡ j = cc in (omega arith, rw (← p) t)
      go false t ih e = (omega (arith, (ih e).0), (ih e).1)

  pub regulator_below : (j : ℕ) → regulator_at s l codes node ≡ Some j → j < l.links
  unfolding regulator_at
  regulator_below j e = let h = found_at l.links 0 j e in omega arith

  pub regulator_is : (j : ℕ) → regulator_at s l codes node ≡ Some j → regulates_at s l codes node j ≡ true
  unfolding regulator_at
  regulator_is j e = (found_at l.links 0 j e).1

  -- the three ways of a repair
  module _ (marks : List Bool) where
    pub repair-frees : (j : ℕ) → regulator_at s l codes node ≡ Some j → repaired (Freed (record { 0 = j })) (set codes j 6) marks ≡ repair_at s l codes marks node
    unfolding repair_at free
    repair-frees j e = rw e

    pub repair-singular : regulator_at s l codes node ≡ None → get_or marks node false ≡ true → repaired (Singular (record { 0 = node })) codes marks ≡ repair_at s l codes marks node
    unfolding repair_at free ground_node
    repair-singular e g = rw (e, g)

    pub repair-grounds : regulator_at s l codes node ≡ None → get_or marks node false ≡ false → repaired (Grounded (record { 0 = node })) codes (set marks node true) ≡ repair_at s l codes marks node
    unfolding repair_at free ground_node
    repair-grounds e g = rw (e, g)
