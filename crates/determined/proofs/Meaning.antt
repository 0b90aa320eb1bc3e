-- What the answer to line 3 means: the lowest junction in service to which no way leads from a node whose head is given, or that a way leads to each. Assumes nothing.
use Prim.Native.Nat.{ℕ, zero, suc, ◌≤◌, ◌<◌}
use mathlib.Core.Path.{◌≡◌, refl, sym, ap, ◌∙◌, subst}
use mathlib.Core.Bool.{Bool, true, false, cond, ◌&&◌, true≢false, false≢true}
use mathlib.Core.List.{List}
use mathlib.Core.Logic.{◌⊎◌, inl, inr, ⊎_elim}
use native.Mathlib.Nat.{eq-or-lt_of_le, le_of_suc-le-suc, lt_of_not-le}
use native.Mathlib.Decide.{ℕ_discrete}
use native.Mathlib.Omega.{arith}
use lib.ListN.{length, get_or, set, replicate, length-replicate}
use lib.Seq.{get_or-set_same, get_or-set_other}
use lib.Ieee.{Float, nan}
use Rattle.codes.specs.Codes.{status_of}
use Rattle.layout.specs.declared.places.Layout.{Layout}
use Rattle.nodes.specs.Nodes.{enabled, fixed_node, in_service}
use Rattle.links.specs.Links.{link_of, link_start, link_end, EndsIn}
use Rattle.links.proofs.Reading.{start_of, end_of}
use Rattle.conducting.specs.Conducting.{conducts_of, holds_of}
use Rattle.reach.specs.Reach.{EndsBelow}
use Rattle.reach.specs.Way.{Conducts, Way, Cut}
use Rattle.reach.specs.Way.Way.{here as here-held, along as there-on, back as back_on}
use Rattle.reach.specs.Way.Cut.{cut_off, whole}
use Rattle.reach.proofs.Ways.{joined}
use Rattle.reach.proofs.Search.{cut_in}
use Rattle.fills.specs.Fills.{filled}
use Rattle.determined.specs.Determined.{link_serves, joins_at, held_at, with_mark, with_held, starts_of, ends_of, joins_of, held_of, needs_of, reached_of, undetermined_of}
use Rattle.determined.specs.Joins.{Serves, Passes, Held, Joins, Undetermined, Determined}
use Rattle.determined.specs.Joins.Held.{fixed, regulated}
use Rattle.determined.specs.Joins.Joins.{here, along, back}
use Rattle.determined.proofs.Laws.{other, held_end}
use Rattle.fills.proofs.Laws.{filled_long, filled_at, filled_past}
use Rattle.determined.proofs.Columns.{ends_fit, held_long}
use Rattle.std.specs.Prelude.{None, Option, Some}

both_of : (x y : Bool) → (x && y) ≡ true → (x ≡ true) × (y ≡ true)
both_of true y e = (refl, e)
both_of false y e = absurd (false≢true e)

none_in : (n i : ℕ) → get_or (replicate n false) i false ≡ false
none_in zero i = refl
none_in (suc n) zero = refl
none_in (suc n) (suc i) = none_in n i

at_or_past : (p i : ℕ) → (p < i → ⊥) → (p ≡ i) ⊎ (i < p)
at_or_past p i not_below = ⊎_elim (λ (g : i ≡ p). inl (sym g)) (λ g. inr g) (eq-or-lt_of_le (le_of_suc-le-suc (lt_of_not-le not_below)))

-- ---- one mark more

mark_keeps : (f : Option ℕ) (m : List Bool) (i : ℕ) → i < length m → get_or m i false ≡ true → get_or (with_mark f m) i false ≡ true
unfolding with_mark
mark_keeps None m i b e = e
mark_keeps (Some p) m i b e = elim (ℕ_discrete i p) [
  | yes q ↦ subst (λ (k : ℕ). get_or (set m k true) i false ≡ true) q (get_or-set_same m i true false b)
  | no q ↦ get_or-set_other m p i true false q ∙ e
]

mark_there : (f : Option ℕ) (m : List Bool) (i : ℕ) → i < length m → f ≡ Some i → get_or (with_mark f m) i false ≡ true
unfolding with_mark
mark_there f m i b e = rw e (get_or-set_same m i true false b)

mark_from : (f : Option ℕ) (m : List Bool) (i : ℕ) → get_or (with_mark f m) i false ≡ true → (f ≡ Some i) ⊎ (get_or m i false ≡ true)
unfolding with_mark
mark_from None m i e = inr e
mark_from (Some p) m i e = elim (ℕ_discrete i p) [
  | yes q ↦ inl (ap Some (sym q))
  | no q ↦ inr (sym (get_or-set_other m p i true false q) ∙ e)
]

module _ (s : List ℕ) (l : Layout) (c : List ℕ) where
  -- ---- the marks of the nodes that links hold

  held_keeps : (k : ℕ) (m : List Bool) (i : ℕ) → i < length m → get_or m i false ≡ true → get_or (with_held s l c k m) i false ≡ true
  unfolding with_held
  held_keeps zero m i b e = e
  held_keeps (suc k) m i b e = mark_keeps (held_at s l c k) (with_held s l c k m) i (rw held_long b) (held_keeps k m i b e)

  held_there : (k : ℕ) (m : List Bool) (i j : ℕ) → i < length m → j < k → held_at s l c j ≡ Some i → get_or (with_held s l c k m) i false ≡ true
  unfolding with_held
  held_there zero m i j b h e = absurd (omega arith)
  held_there (suc k) m i j b h e =
      ⊎_elim
      (λ (p : j ≡ k). mark_there (held_at s l c k) (with_held s l c k m) i (rw held_long b) (subst (λ (x : ℕ). held_at s l c x ≡ Some i) p e))
      (λ (p : j < k). mark_keeps (held_at s l c k) (with_held s l c k m) i (rw held_long b) (held_there k m i j b p e))
      (eq-or-lt_of_le (le_of_suc-le-suc h))

  held_from : (k : ℕ) (m : List Bool) (i : ℕ) → get_or (with_held s l c k m) i false ≡ true → (get_or m i false ≡ true) ⊎ ((j : ℕ) × ((j < k) × (held_at s l c j ≡ Some i)))
  unfolding with_held
  held_from zero m i e = inl e
  held_from (suc k) m i e =
      ⊎_elim
      (λ (f : held_at s l c k ≡ Some i). inr (k, (omega arith, f)))
      (λ f. ⊎_elim (λ (g : get_or m i false ≡ true). inl g) (λ w. inr (w.0, (omega (arith, w.1.0), w.1.1))) (held_from k m i f))
      (mark_from (held_at s l c k) (with_held s l c k m) i e)

  -- ---- links in service

  serves_is : (j : ℕ) → j < l.links → link_serves s l j ≡ true → Serves s l j
  unfolding link_serves
  serves_is j h e = let w = both_of (enabled s l (link_start s l j)) (enabled s l (link_end s l j)) e in record { below = h; start = w.0; end = w.1 }

  is_serving : (j : ℕ) → Serves s l j → link_serves s l j ≡ true
  unfolding link_serves
  is_serving j w = rw (w.start, w.end)

  held_in_service : (i j : ℕ) → held_at s l c j ≡ Some i → (link_serves s l j ≡ true) × (holds_of (link_of s l j) (status_of (get_or c j 0)) ≡ Some i)
  unfolding held_at
  held_in_service i j e = go (link_serves s l j) e
    where
      go : (b : Bool) → cond b (holds_of (link_of s l j) (status_of (get_or c j 0))) None ≡ Some i → (b ≡ true) × (holds_of (link_of s l j) (status_of (get_or c j 0)) ≡ Some i)
      go true f = (refl, f)
      go false f = other f

  service_holds : (i j : ℕ) → Serves s l j → holds_of (link_of s l j) (status_of (get_or c j 0)) ≡ Some i → held_at s l c j ≡ Some i
  unfolding held_at
  service_holds i j w e = rw (is_serving j w) e

module _ (s : List ℕ) (l : Layout) (q : List Float) (c : List ℕ) (ends : EndsIn l s) (few : l.nodes ≤ 64) (some : l.links ≤ 128) where
  -- ---- the columns

  starts_at : (j : ℕ) → j < l.links → get_or (starts_of s l) j 0 ≡ link_start s l j
  unfolding starts_of
  starts_at j h = filled_at (link_start s l) 0 l.links (replicate 128 0) (omega (arith, length-replicate {A = ℕ} 128 0)) j h

  ends_at : (j : ℕ) → j < l.links → get_or (ends_of s l) j 0 ≡ link_end s l j
  unfolding ends_of
  ends_at j h = filled_at (link_end s l) 0 l.links (replicate 128 0) (omega (arith, length-replicate {A = ℕ} 128 0)) j h

  joins_at_lem : (j : ℕ) → j < l.links → get_or (joins_of s l q c) j false ≡ joins_at s l q c j
  unfolding joins_of
  joins_at_lem j h = filled_at (joins_at s l q c) false l.links (replicate 128 false) (omega (arith, length-replicate 128 false)) j h

  needs_at : (i : ℕ) → i < l.nodes → get_or (needs_of s l) i false ≡ in_service s l i
  unfolding needs_of
  needs_at i h = filled_at (in_service s l) false l.nodes (replicate 64 false) (omega (arith, length-replicate 64 false)) i h

  fixed_at : (i : ℕ) → i < l.nodes → get_or (filled (fixed_node s l) l.nodes (replicate 64 false)) i false ≡ fixed_node s l i
  fixed_at i h = filled_at (fixed_node s l) false l.nodes (replicate 64 false) (omega (arith, length-replicate 64 false)) i h

  fixed_long : length (filled (fixed_node s l) l.nodes (replicate 64 false)) ≡ 64
  fixed_long = filled_long (fixed_node s l) l.nodes (replicate 64 false) ∙ length-replicate 64 false

  held_fits : l.nodes ≤ length (held_of s l c)
  unfolding held_of
  held_fits = omega (arith, held_long s l c l.links (filled (fixed_node s l) l.nodes (replicate 64 false)), fixed_long)

  fit : EndsBelow l.nodes l.links (starts_of s l) (ends_of s l)
  unfolding starts_of ends_of
  fit = ends_fit s l ends some (starts_of s l) (ends_of s l) refl refl

  -- ---- a link that conducts

  joins_both : (j : ℕ) → joins_at s l q c j ≡ true → (link_serves s l j ≡ true) × (conducts_of (link_of s l j) (status_of (get_or c j 0)) (get_or q j nan) ≡ true)
  unfolding joins_at
  joins_both j e = both_of (link_serves s l j) (conducts_of (link_of s l j) (status_of (get_or c j 0)) (get_or q j nan)) e

  both_join : (j : ℕ) → link_serves s l j ≡ true → conducts_of (link_of s l j) (status_of (get_or c j 0)) (get_or q j nan) ≡ true → joins_at s l q c j ≡ true
  unfolding joins_at
  both_join j x y = rw (x, y)

  passes : {j a b : ℕ} → Conducts (starts_of s l) (ends_of s l) (joins_of s l q c) l.links j a b → Passes s l q c j a b
  passes {j} {a} {b} k =
      let w = joins_both j (sym (joins_at_lem j k.below) ∙ k.on) in
      record {
        serves = serves_is s l c j k.below w.0;
        conducts = w.1;
        from = sym (starts_at j k.below) ∙ k.start;
        to = sym (ends_at j k.below) ∙ k.end;
      }

  conducting : {j a b : ℕ} → Passes s l q c j a b → Conducts (starts_of s l) (ends_of s l) (joins_of s l q c) l.links j a b
  conducting {j} {a} {b} p =
      let h = p.serves.below in
      record {
        below = h;
        on = joins_at_lem j h ∙ both_join j (is_serving s l c j p.serves) p.conducts;
        start = starts_at j h ∙ p.from;
        end = ends_at j h ∙ p.to;
      }

  -- ---- a node whose head is given

  given : (i : ℕ) → get_or (held_of s l c) i false ≡ true → Held s l c i
  unfolding held_of
  given i e = ⊎_elim by-node by-link (held_from s l c l.links (filled (fixed_node s l) l.nodes (replicate 64 false)) i e)
    where
      by-node : get_or (filled (fixed_node s l) l.nodes (replicate 64 false)) i false ≡ true → Held s l c i
      by-node f =
          let h : i < l.nodes = lt_of_not-le (λ (g : l.nodes ≤ i). true≢false (sym f ∙ filled_past (fixed_node s l) false l.nodes (replicate 64 false) i g ∙ none_in 64 i)) in
          fixed h (sym (fixed_at i h) ∙ f)

      by-link : (j : ℕ) × ((j < l.links) × (held_at s l c j ≡ Some i)) → Held s l c i
      by-link w =
          let h = held_in_service s l c i w.0 w.1.1 in
          regulated w.0 (serves_is s l c w.0 w.1.0 h.0) h.1

  held_node_lem : {i : ℕ} → Held s l c i → get_or (held_of s l c) i false ≡ true
  unfolding held_of
  held_node_lem {i} (fixed h e) = held_keeps s l c l.links (filled (fixed_node s l) l.nodes (replicate 64 false)) i (omega (arith, fixed_long)) (fixed_at i h ∙ e)
  held_node_lem {i} (regulated j w e) =
      let below : i < l.nodes = held_end (λ (x : ℕ). x < l.nodes) i (link_of s l j) (status_of (get_or c j 0)) e (rw start_of (ends.start j w.below)) (rw end_of (ends.end j w.below)) in
      held_there s l c l.links (filled (fixed_node s l) l.nodes (replicate 64 false)) i j (omega (arith, fixed_long)) w.below (service_holds s l c i j w e)

  -- ---- a way

  abbrev Ways : ℕ → Type 0
  Ways i = Way (starts_of s l) (ends_of s l) (joins_of s l q c) l.links (held_of s l c) i

  joins : {i : ℕ} → Ways i → Joins s l q c i
  joins {i} (here-held e) = here (given i e)
  joins (there-on j w k) = along j (joins w) (passes k)
  joins (back_on j w k) = back j (joins w) (passes k)

  ways : {i : ℕ} → Joins s l q c i → Ways i
  ways (here e) = here-held (held_node_lem e)
  ways (along j w p) = there-on j (ways w) (conducting p)
  ways (back j w p) = back_on j (ways w) (conducting p)

  -- ---- what was found

  cut : Cut (starts_of s l) (ends_of s l) (joins_of s l q c) l.links l.nodes (held_of s l c) (needs_of s l) (undetermined_of s l q c)
  unfolding undetermined_of reached_of
  cut = cut_in (needs_of s l) (reached_of s l q c) (starts_of s l) (ends_of s l) (joins_of s l q c) l.links l.nodes (held_of s l c) (joined (starts_of s l) (ends_of s l) (joins_of s l q c) l.links l.nodes fit (held_of s l c) held_fits)

  abbrev CutAt : Option ℕ → Type 0
  CutAt u = Cut (starts_of s l) (ends_of s l) (joins_of s l q c) l.links l.nodes (held_of s l c) (needs_of s l) u

  -- Where a node was found, it is the lowest junction in service with no way to it.
  pub undetermined_is : (i : ℕ) → undetermined_of s l q c ≡ Some i → Undetermined s l q c i
  undetermined_is i e = go (subst CutAt e cut)
    where
      go : CutAt (Some i) → Undetermined s l q c i
      go (cut_off p b n without low) =
          record {
            below = b;
            serves = sym (needs_at i b) ∙ n;
            none = λ w. without (ways w);
            lower = λ h g f. joins (low h g (needs_at h (omega arith) ∙ f));
          }

  -- Where none was found, there is a way to each.
  pub determined_is : undetermined_of s l q c ≡ None → Determined s l q c
  determined_is e = go (subst CutAt e cut)
    where
      go : CutAt None → Determined s l q c
      go (whole all) = record { way = λ h g f. joins (all h g (needs_at h g ∙ f)) }

  -- And in no other case.
  pub undetermined_only : (i : ℕ) → Undetermined s l q c i → undetermined_of s l q c ≡ Some i
  undetermined_only i w = go (undetermined_of s l q c) refl
    where
      go : (f : Option ℕ) → undetermined_of s l q c ≡ f → f ≡ Some i
      go (Some p) e =
          let v = undetermined_is p e in
          ⊎_elim (λ (g : p ≡ i). ap Some g) (λ (g : i < p). absurd (w.none (v.lower i g w.serves))) (at_or_past p i (λ h. v.none (w.lower p h v.serves)))
      go None e = absurd (w.none ((determined_is e).way i w.below w.serves))

  pub determined_only : Determined s l q c → undetermined_of s l q c ≡ None
  determined_only w = go (undetermined_of s l q c) refl
    where
      go : (f : Option ℕ) → undetermined_of s l q c ≡ f → f ≡ None
      go (Some p) e = let v = undetermined_is p e in absurd (v.none (w.way p v.below v.serves))
      go None e = refl
