-- The links at each node: exactly those that touch it, two entries a link, and outside an edit nothing moves. Assumes nothing.
use Prim.Native.Nat.{ℕ, zero, suc, ◌+◌, ◌*◌, ◌-◌, ◌≤◌, ◌<◌}
use mathlib.Core.Path.{◌≡◌, refl, sym, ap, subst, ◌∙◌}
use mathlib.Core.Bool.{Bool, true, false, cond, ◌||◌}
use mathlib.Core.List.{List}
use mathlib.Core.Logic.{◌⊎◌, inl, inr, ⊎_elim}
use native.Mathlib.Omega.{arith}
use borrow.Author.Tests.{eqb-true, eq-eqb, ne_eqb}
use lib.Dec.{eqb}
use lib.ListN.{length, get_or}
use Rattle.touching.specs.Touching.{touches_at, touching_at, place_of, Joined, Listed}
use Rattle.touching.proofs.Laws.{same_or, below_or, at_start, at_end, at_neither, count_more, count_same, count_none, count_grows, rank, entry_is, place_none, place_next}
use Rattle.touching.proofs.Walk.{ends_behind, link_in, link-touches}
use Rattle.mending.proofs.Moves.{before, counted, rank_back, at, at_listed}
use Rattle.touching_laws.specs.Lists.{Found, Exactly, AtEachNode, TwoEach, Edited, Stays, OutsideStays}

touched : (start end : ℕ → ℕ) (i j : ℕ) → touches_at start end i j ≡ true → (start j ≡ i) ⊎ (end j ≡ i)
unfolding touches_at
touched start end i j t = go (eqb (start j) i) refl t
  where
    go : (b : Bool) → eqb (start j) i ≡ b → (b || eqb (end j) i) ≡ true → (start j ≡ i) ⊎ (end j ≡ i)
    go true e w = inl (eqb-true (start j) i e)
    go false e w = inr (eqb-true (end j) i w)

touches_of : (start end : ℕ → ℕ) (i j : ℕ) → (start j ≡ i) ⊎ (end j ≡ i) → touches_at start end i j ≡ true
touches_of start end i j = ⊎_elim (at_start start end i j) (at_end start end i j)

pub at_each_node : AtEachNode
at_each_node start end n m places listed r i h =
    record {
      only = λ p a b. (link_in start end n m places listed r i h p a b, touched start end i (get_or listed p 0) (link-touches start end n m places listed r i h p a b));
      every = λ j b t.
          let w = touches_of start end i j t in
          record {
            place = at start end m i j;
            from = omega (arith, r.place i (omega arith));
            to = omega (arith, ends_behind start end n m places listed r i h, r.place i (omega arith), counted start end i j m w b);
            is = at_listed start end n m places listed r i j h b w;
          };
      ascending = λ p q a b c.
          let k : ℕ = get_or listed p 0 in
          let l : ℕ = get_or listed q 0 in
          let e = place-of p a (omega arith) in
          let f = place-of q (omega arith) c in
          below_or k l (λ o. o) (λ o. absurd (omega (arith, e, f, count_grows start end i l k o)));
    }
  where
    -- an entry stands behind as many links as touch the node before it
    place-of : (p : ℕ) → get_or places i 0 ≤ p → p < get_or places (i + 1) 0 → before start end (get_or listed p 0) i ≡ p - get_or places i 0
    place-of p a b =
        let s : p - get_or places i 0 < length (touching_at start end m i) = omega (arith, ends_behind start end n m places listed r i h) in
        let e : p ≡ place_of start end m i + (p - get_or places i 0) = omega (arith, r.place i (omega arith)) in
        let is : get_or listed p 0 ≡ get_or (touching_at start end m i) (p - get_or places i 0) 0 = ap (λ (z : ℕ). get_or listed z 0) e ∙ r.entry i (p - get_or places i 0) h s in
        ap (λ (z : ℕ). before start end z i) is ∙ rank_back start end i m (p - get_or places i 0) s

-- ---- two entries a link

module _ (start end : ℕ → ℕ) where
  abbrev met : ℕ → ℕ → ℕ
  met a zero = 0
  met a (suc n) = cond {A = ℕ} (eqb a n) (suc (met a n)) (met a n)

  abbrev hits : ℕ → ℕ → ℕ
  hits j zero = 0
  hits j (suc n) = cond {A = ℕ} (touches_at start end n j) (suc (hits j n)) (hits j n)

  met_none : (a n : ℕ) → n ≤ a → met a n ≡ 0
  met_none a zero h = refl
  met_none a (suc n) h = rw (ne_eqb a n (λ e. omega arith)) (met_none a n (omega arith))

  met_once : (a n : ℕ) → a < n → met a n ≡ 1
  met_once a zero h = absurd (omega arith)
  met_once a (suc n) h =
      same_or a n
      (λ e. rw (eq-eqb a n e) (omega (arith, met_none a n (omega arith))))
      (λ d. rw (ne_eqb a n d) (met_once a n (below_or a n (λ q. q) (λ q. absurd (d (let e : a ≡ n = omega arith in e))))))

  hits_both : (j n : ℕ) → (start j ≡ end j → ⊥) → hits j n ≡ met (start j) n + met (end j) n
  unfolding touches_at
  hits_both j zero d = omega arith
  hits_both j (suc n) d = go (eqb (start j) n) (eqb (end j) n) refl refl (hits_both j n d)
    where
      go : (a b : Bool) → eqb (start j) n ≡ a → eqb (end j) n ≡ b → hits j n ≡ met (start j) n + met (end j) n
          → cond {A = ℕ} (a || b) (suc (hits j n)) (hits j n) ≡ cond {A = ℕ} a (suc (met (start j) n)) (met (start j) n) + cond {A = ℕ} b (suc (met (end j) n)) (met (end j) n)
      go true true e f h = absurd (d (eqb-true (start j) n e ∙ sym (eqb-true (end j) n f)))
      go true false e f h = omega arith
      go false true e f h = omega arith
      go false false e f h = h

  place_hits : (m n : ℕ) → place_of start end (suc m) n ≡ place_of start end m n + hits m n
  place_hits m zero = omega (arith, place_none start end m, place_none start end (suc m))
  place_hits m (suc n) = go (touches_at start end n m) refl (place_hits m n)
    where
      go : (b : Bool) → touches_at start end n m ≡ b → place_of start end (suc m) n ≡ place_of start end m n + hits m n → place_of start end (suc m) (suc n) ≡ place_of start end m (suc n) + cond {A = ℕ} b (suc (hits m n)) (hits m n)
      go true e h = omega (arith, place_next start end (suc m) n, place_next start end m n, count_more start end n m e)
      go false e h = omega (arith, place_next start end (suc m) n, place_next start end m n, count_same start end n m e)

  place_zero : (n : ℕ) → place_of start end 0 n ≡ 0
  place_zero zero = place_none start end 0
  place_zero (suc n) = omega (arith, place_next start end 0 n, place_zero n, count_none start end n)

pub two_each : TwoEach
two_each start end n m w = go m (omega arith)
  where
    go : (k : ℕ) → k ≤ m → place_of start end k n ≡ 2 * k
    go zero h = omega (arith, place_zero start end n)
    go (suc k) h = omega (arith, go k (omega arith), place_hits start end k n, hits_both start end k n (w.apart k h), met_once start end (start k) n (w.start_in k h), met_once start end (end k) n (w.end_in k h))

-- ---- outside an edit

module _ (start end start' end' : ℕ → ℕ) (j lo hi : ℕ) (v : Edited start end start' end' j lo hi) where
  others_same : (i k : ℕ) → (k ≡ j → ⊥) → touches_at start' end' i k ≡ touches_at start end i k
  unfolding touches_at
  others_same i k e = rw (v.starts k e, v.ends k e)

  -- a node that the link does not touch before or after lists the same
  far : (m i : ℕ) → (start j ≡ i → ⊥) → (end j ≡ i → ⊥) → (start' j ≡ i → ⊥) → (end' j ≡ i → ⊥) → touching_at start' end' m i ≡ touching_at start end m i
  unfolding touching_at
  far zero i a b c d = refl
  far (suc m) i a b c d =
      let same : touches_at start' end' i m ≡ touches_at start end i m = same_or m j (λ e. rw e (at_neither start' end' i j c d ∙ sym (at_neither start end i j a b))) (λ e. others_same i m e) in
      rw (same, far m i a b c d)

  far_before : (m i : ℕ) → i < lo → touching_at start' end' m i ≡ touching_at start end m i
  far_before m i h = far m i (λ e. omega (arith, v.start_from)) (λ e. omega (arith, v.end_from)) (λ e. omega (arith, v.start_from')) (λ e. omega (arith, v.end_from'))

  far_behind : (m i : ℕ) → hi < i → touching_at start' end' m i ≡ touching_at start end m i
  far_behind m i h = far m i (λ e. omega (arith, v.start_to)) (λ e. omega (arith, v.end_to)) (λ e. omega (arith, v.start_to')) (λ e. omega (arith, v.end_to'))

  place_before : (m i : ℕ) → i ≤ lo → place_of start' end' m i ≡ place_of start end m i
  place_before m zero h = place_none start' end' m ∙ sym (place_none start end m)
  place_before m (suc i) h = omega (arith, place_next start' end' m i, place_next start end m i, place_before m i (omega arith), ap length (far_before m i h))

  -- from the end backwards, where both have listed as many
  place_behind : (m i k : ℕ) → hi < i → place_of start' end' m (i + k) ≡ place_of start end m (i + k) → place_of start' end' m i ≡ place_of start end m i
  place_behind m i zero h e = let z : i + 0 ≡ i = omega arith in subst (λ (q : ℕ). place_of start' end' m q ≡ place_of start end m q) z e
  place_behind m i (suc k) h e =
      let z : i + suc k ≡ suc (i + k) = omega arith in
      let o : place_of start' end' m (suc (i + k)) ≡ place_of start end m (suc (i + k)) = subst (λ (q : ℕ). place_of start' end' m q ≡ place_of start end m q) z e in
      place_behind m i k h (omega (arith, o, place_next start' end' m (i + k), place_next start end m (i + k), ap length (far_behind m (i + k) (omega arith))))

pub outside_stays : OutsideStays
outside_stays start end start' end' n m j lo hi w w' v =
    record {
      places_before = place_before start end start' end' j lo hi v m;
      places_behind = λ i h b.
          let z : i + (n - i) ≡ n = omega arith in
          let all : place_of start' end' m n ≡ place_of start end m n = two_each start' end' n m w' ∙ sym (two_each start end n m w) in
          place_behind start end start' end' j lo hi v m i (n - i) h (subst (λ (q : ℕ). place_of start' end' m q ≡ place_of start end m q) (sym z) all);
      listed_before = far_before start end start' end' j lo hi v m;
      listed_behind = far_behind start end start' end' j lo hi v m;
    }
