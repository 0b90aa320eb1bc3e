-- The links at a tank, gone through in the list of those that touch it. Assumes nothing.
use mathlib.Core.Path.{◌≡◌, refl, ◌∙◌}
use mathlib.Core.Bool.{Bool, true, false, cond, ◌||◌}
use mathlib.Core.List.{List, [], ◌∷◌, ◌++◌}
use Prim.Native.Nat.{ℕ, zero, suc, ◌+◌, ◌≤◌}
use native.Mathlib.Omega.{arith}
use borrow.Author.Tests.{eq-eqb, ne_eqb}
use lib.Dec.{eqb}
use lib.ListN.{length, get_or}
use lib.Ieee.{Float, nan}
use Rattle.layout.specs.declared.places.Layout.{Layout}
use Rattle.links.specs.Links.{link_start, link_end}
use Rattle.columns.specs.Columns.{add_to, take_from}
use Rattle.touching.specs.Touching.{touches_at, touching_at}
use Rattle.touching.proofs.Walk.{left_from}
use Rattle.tanks.specs.Tanks.{Tanks, tanks, shut, links_to, links_from}

-- what one link does, and some do one behind the other, of those with that end at tank i
unfoldable pub one : (ℕ → ℕ) → (List Float → ℕ → Float → List Float) → Bool → Bool → ℕ → List Float → ℕ → Tanks → Tanks
one end put above below i q j t = cond (eqb (end j) i) (tanks (put t.demands i (get_or q j nan)) (shut above below (get_or q j nan) j t.codes)) t

unfoldable pub through : (ℕ → ℕ) → (List Float → ℕ → Float → List Float) → Bool → Bool → ℕ → List Float → List ℕ → Tanks → Tanks
through end put above below i q [] t = t
through end put above below i q (j ∷ x) t = through end put above below i q x (one end put above below i q j t)

module _ (end : ℕ → ℕ) (put : List Float → ℕ → Float → List Float) (above below : Bool) (i : ℕ) (q : List Float) where
  pub through_snoc : (x : List ℕ) (j : ℕ) (t : Tanks) → through end put above below i q (x ++ (j ∷ [])) t ≡ one end put above below i q j (through end put above below i q x t)
  unfolding through
  through_snoc [] j t = refl
  through_snoc (k ∷ x) j t = through_snoc x j (one end put above below i q k t)

  one_other : (j : ℕ) (t : Tanks) → eqb (end j) i ≡ false → one end put above below i q j t ≡ t
  unfolding one
  one_other j t e = rw e

  -- one turn: the next link has the end there, or not
  pub through_here : (x y : List ℕ) (j e : ℕ) (d d₁ : List Float) (c c₁ : List ℕ) → x ≡ j ∷ y → e ≡ end j → e ≡ i → d₁ ≡ put d i (get_or q j nan) → c₁ ≡ shut above below (get_or q j nan) j c
      → through end put above below i q y (tanks d₁ c₁) ≡ through end put above below i q x (tanks d c)
  unfolding through one
  through_here x y j e d d₁ c c₁ next read here a b =
      let w : eqb (end j) i ≡ true = rw (← read) (eq-eqb e i here) in
      rw (next, w, a, b)

  pub through_other : (x y : List ℕ) (j e : ℕ) (d d₁ : List Float) (c c₁ : List ℕ) → x ≡ j ∷ y → e ≡ end j → (e ≡ i → ⊥) → d₁ ≡ d → c₁ ≡ c
      → through end put above below i q y (tanks d₁ c₁) ≡ through end put above below i q x (tanks d c)
  unfolding through one
  through_other x y j e d d₁ c c₁ next read other a b =
      let w : eqb (end j) i ≡ false = rw (← read) (ne_eqb e i other) in
      rw (next, w, a, b)

  pub through_none : (x : List ℕ) (t : Tanks) → x ≡ [] → t ≡ through end put above below i q x t
  unfolding through
  through_none x t e = rw e

-- those that touch the tank do what all links do
module _ (s : List ℕ) (l : Layout) (i : ℕ) (q : List Float) (full empty : Bool) (t : Tanks) where
  pub to_touching : (m : ℕ) → through (link_end s l) add_to full empty i q (touching_at (link_start s l) (link_end s l) m i) t ≡ links_to s l i q full empty m t
  unfolding through one links_to touching_at touches_at
  to_touching zero = refl
  to_touching (suc m) = go (eqb (link_start s l m) i) (eqb (link_end s l m) i) refl (to_touching m)
    where
      all : List ℕ
      all = touching_at (link_start s l) (link_end s l) m i

      u : Tanks
      u = links_to s l i q full empty m t

      go : (a b : Bool) → eqb (link_end s l m) i ≡ b → through (link_end s l) add_to full empty i q all t ≡ u
          → through (link_end s l) add_to full empty i q (cond (a || b) (all ++ (m ∷ [])) all) t ≡ cond b (tanks (add_to u.demands i (get_or q m nan)) (shut full empty (get_or q m nan) m u.codes)) u
      go true true w e = through_snoc (link_end s l) add_to full empty i q all m t ∙ rw (e, w)
      go true false w e = through_snoc (link_end s l) add_to full empty i q all m t ∙ rw (e, w)
      go false true w e = through_snoc (link_end s l) add_to full empty i q all m t ∙ rw (e, w)
      go false false w e = e

  pub from_touching : (m : ℕ) → through (link_start s l) take_from empty full i q (touching_at (link_start s l) (link_end s l) m i) t ≡ links_from s l i q full empty m t
  unfolding through one links_from touching_at touches_at
  from_touching zero = refl
  from_touching (suc m) = go (eqb (link_start s l m) i) (eqb (link_end s l m) i) refl (from_touching m)
    where
      all : List ℕ
      all = touching_at (link_start s l) (link_end s l) m i

      u : Tanks
      u = links_from s l i q full empty m t

      go : (a b : Bool) → eqb (link_start s l m) i ≡ a → through (link_start s l) take_from empty full i q all t ≡ u
          → through (link_start s l) take_from empty full i q (cond (a || b) (all ++ (m ∷ [])) all) t ≡ cond a (tanks (take_from u.demands i (get_or q m nan)) (shut empty full (get_or q m nan) m u.codes)) u
      go true b w e = through_snoc (link_start s l) take_from empty full i q all m t ∙ rw (e, w)
      go false true w e = through_snoc (link_start s l) take_from empty full i q all m t ∙ rw (e, w)
      go false false w e = e

-- a walk at place p of those from place a on, with the columns as they are and as they were, comes to the whole
pub record Walked (a : ℕ) (x : List ℕ) (go : List ℕ → Tanks → Tanks) (whole : Tanks) (d₀ : List Float) (c₀ : List ℕ) (d : List Float) (c : List ℕ) (p : ℕ) : Type 0 where
  pub from : a ≤ p
  pub made : go (left_from x a p) (tanks d c) ≡ whole
  pub d_long : length d ≡ length d₀
  pub c_long : length c ≡ length c₀

pub walk_next : {a : ℕ} {x : List ℕ} {go : List ℕ → Tanks → Tanks} {whole : Tanks} {d₀ d d₁ : List Float} {c₀ c c₁ : List ℕ} {p : ℕ} → Walked a x go whole d₀ c₀ d c p
    → go (left_from x a (p + 1)) (tanks d₁ c₁) ≡ go (left_from x a p) (tanks d c) → length d₁ ≡ length d → length c₁ ≡ length c → Walked a x go whole d₀ c₀ d₁ c₁ (p + 1)
walk_next v e a b = record { from = omega (arith, v.from); made = e ∙ v.made; d_long = a ∙ v.d_long; c_long = b ∙ v.c_long }
