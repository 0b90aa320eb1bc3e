-- One link moved from node x to node y: how its list and the places differ before and after. Assumes nothing.
use Prim.Native.Nat.{ℕ, zero, suc, ◌+◌, ◌≤◌, ◌<◌}
use mathlib.Core.Path.{◌≡◌, refl, sym, ap, subst, ◌∙◌}
use mathlib.Core.Bool.{Bool, true, false}
use mathlib.Core.List.{List, [], ◌∷◌, ◌++◌}
use mathlib.Core.Logic.{⊎_elim}
use native.Mathlib.Nat.{eq-or-lt_of_le}
use native.Mathlib.Omega.{arith}
use lib.ListN.{length, get_or, get_or-append}
use lib.Seq.{get_or-append_seam}
use Rattle.touching.specs.Touching.{touches_at, touching_at, place_of, Listed}
use Rattle.touching.proofs.Laws.{same_or, below_or, one_more, no_more, count_more, count_same, count_none, count_grows, rank, entry_is, place_none, place_next, place_within}

-- ---- which links are at a node, and where

module _ (f g : ℕ → ℕ) where
  -- how many of the links below k touch node i
  abbrev pub before : ℕ → ℕ → ℕ
  before k i = length (touching_at f g k i)

  abbrev pub bit : Bool → ℕ
  bit true = 1
  bit false = 0

  pub step : (i k : ℕ) (b : Bool) → touches_at f g i k ≡ b → before (suc k) i ≡ before k i + bit b
  step i k true e = omega (arith, count_more f g i k e)
  step i k false e = omega (arith, count_same f g i k e)

  -- a link that touches the node is counted behind it
  pub counted : (i k m : ℕ) → touches_at f g i k ≡ true → k < m → before k i < before m i
  counted i k m t h = omega (arith, count_more f g i k t, count_grows f g i (suc k) m h)

  -- an entry stands behind as many as there are before it
  pub rank_back : (i m r : ℕ) → r < before m i → before (get_or (touching_at f g m i) r 0) i ≡ r
  rank_back i zero r h = absurd (omega (arith, count_none f g i))
  rank_back i (suc m) r h = go (touches_at f g i m) refl (rank_back i m r)
    where
      go : (b : Bool) → touches_at f g i m ≡ b → (r < before m i → before (get_or (touching_at f g m i) r 0) i ≡ r) → before (get_or (touching_at f g (suc m) i) r 0) i ≡ r
      go true e ih =
          below_or r (before m i)
          (λ q. ap (λ (k : ℕ). before k i) (ap (λ (z : List ℕ). get_or z r 0) (one_more f g i m e) ∙ get_or-append (touching_at f g m i) (m ∷ []) 0 r q) ∙ ih q)
          (λ q.
          let w : r ≡ before m i = omega (arith, count_more f g i m e) in
          ap (λ (k : ℕ). before k i) (ap (λ (z : List ℕ). get_or z r 0) (one_more f g i m e) ∙ ap (λ (z : ℕ). get_or (touching_at f g m i ++ (m ∷ [])) z 0) w ∙ get_or-append_seam (touching_at f g m i) m [] 0) ∙ sym w)
      go false e ih = ap (λ (z : List ℕ). before (get_or z r 0) i) (no_more f g i m e) ∙ ih (omega (arith, count_same f g i m e))

  -- the place of link k at node i
  abbrev pub at : ℕ → ℕ → ℕ → ℕ
  at m i k = place_of f g m i + before k i

  pub at_within : (m i k n : ℕ) → i < n → k < m → touches_at f g i k ≡ true → at m i k < place_of f g m n
  at_within m i k n h b t = place_within f g m i (before k i) n h (counted i k m t b)

  -- the columns by link, not by place
  pub at_listed : (n m : ℕ) (places listed : List ℕ) → Listed f g n m places listed → (i k : ℕ) → i < n → k < m → touches_at f g i k ≡ true → get_or listed (at m i k) 0 ≡ k
  at_listed n m places listed r i k h b t = r.entry i (before k i) h (counted i k m t b) ∙ rank f g i k m b t

  pub listed_by : (n m : ℕ) (places listed : List ℕ) → n < length places → place_of f g m n ≤ length listed → ((i : ℕ) → i ≤ n → get_or places i 0 ≡ place_of f g m i)
      → ((i k : ℕ) → i < n → k < m → touches_at f g i k ≡ true → get_or listed (at m i k) 0 ≡ k) → Listed f g n m places listed
  listed_by n m places listed pl ll place by =
      record {
        places_long = pl;
        listed_long = ll;
        place = place;
        entry = λ i r h b.
            let is = entry_is f g i m r b in
            ap (λ (k : ℕ). get_or listed (place_of f g m i + k) 0) (sym (rank_back i m r b)) ∙ by i (get_or (touching_at f g m i) r 0) h is.0 is.1;
      }

-- ---- one link moved

pub record Moves (f g f' g' : ℕ → ℕ) (x y j : ℕ) : Type 0 where
  pub other : (i k : ℕ) → (k ≡ j → ⊥) → touches_at f g i k ≡ touches_at f' g' i k
  pub rest : (i : ℕ) → (i ≡ x → ⊥) → (i ≡ y → ⊥) → touches_at f g i j ≡ touches_at f' g' i j
  pub was : touches_at f g x j ≡ true
  pub gone : touches_at f' g' x j ≡ false
  pub wanted : touches_at f g y j ≡ false
  pub came : touches_at f' g' y j ≡ true

pub swap : {f g f' g' : ℕ → ℕ} {x y j : ℕ} → Moves f g f' g' x y j → Moves f' g' f g y x j
swap v = record { other = λ i k d. sym (v.other i k d); rest = λ i d e. sym (v.rest i e d); was = v.came; gone = v.wanted; wanted = v.gone; came = v.was }

module _ (f g f' g' : ℕ → ℕ) (x y j : ℕ) (v : Moves f g f' g' x y j) where
  -- one count more on both sides
  both : (i k : ℕ) → touches_at f g i k ≡ touches_at f' g' i k → (d : ℕ) → before f g k i ≡ before f' g' k i + d → before f g (suc k) i ≡ before f' g' (suc k) i + d
  both i k e d h = omega (arith, step f g i k (touches_at f' g' i k) e, step f' g' i k (touches_at f' g' i k) refl)

  -- below the link, and at the other nodes, nothing differs
  pub count_low : (i k : ℕ) → k ≤ j → before f g k i ≡ before f' g' k i
  count_low i zero h = omega (arith, count_none f g i, count_none f' g' i)
  count_low i (suc k) h = let b = both i k (v.other i k (λ e. omega arith)) 0 (omega (arith, count_low i k (omega arith))) in omega arith

  pub count_rest : (i k : ℕ) → (i ≡ x → ⊥) → (i ≡ y → ⊥) → before f g k i ≡ before f' g' k i
  count_rest i zero p q = omega (arith, count_none f g i, count_none f' g' i)
  count_rest i (suc k) p q =
      let b = both i k (same_or k j (λ e. rw e (v.rest i p q)) (λ d. v.other i k d)) 0 (omega (arith, count_rest i k p q)) in
      omega arith

  -- behind the link node x has one more before the move
  pub count_left : (k : ℕ) → j < k → before f g k x ≡ before f' g' k x + 1
  count_left zero h = absurd (omega arith)
  count_left (suc k) h =
      below_or j k
      (λ q. both x k (v.other x k (λ e. omega arith)) 1 (count_left k q))
      (λ q.
      let e : k ≡ j = omega arith in
      rw e (omega (arith, count_more f g x j v.was, count_same f' g' x j v.gone, count_low x j (omega arith))))

module _ (f g f' g' : ℕ → ℕ) (m x y j : ℕ) (v : Moves f g f' g' x y j) (up : x < y) (in_links_said : j < m) where
  -- and node y one more after it
  pub count_come : (k : ℕ) → j < k → before f' g' k y ≡ before f g k y + 1
  count_come k h = count_left f' g' f g y x j (swap v) k h

  -- ---- the places

  pub place_low : (i : ℕ) → i ≤ x → place_of f g m i ≡ place_of f' g' m i
  place_low zero h = omega (arith, place_none f g m, place_none f' g' m)
  place_low (suc i) h = omega (arith, place_next f g m i, place_next f' g' m i, place_low i (omega arith), count_rest f g f' g' x y j v i m (λ e. omega arith) (λ e. omega arith))

  pub place_mid : (i : ℕ) → x < i → i ≤ y → place_of f g m i ≡ place_of f' g' m i + 1
  place_mid zero a b = absurd (omega arith)
  place_mid (suc i) a b =
      below_or x i
      (λ q. omega (arith, place_next f g m i, place_next f' g' m i, place_mid i q (omega arith), count_rest f g f' g' x y j v i m (λ e. omega arith) (λ e. omega arith)))
      (λ q.
      let e : i ≡ x = omega arith in
      rw e (omega (arith, place_next f g m x, place_next f' g' m x, place_low x (omega arith), count_left f g f' g' x y j v m in_links_said)))

  pub place_high : (i : ℕ) → y < i → place_of f g m i ≡ place_of f' g' m i
  place_high zero a = absurd (omega arith)
  place_high (suc i) a =
      below_or y i
      (λ q. omega (arith, place_next f g m i, place_next f' g' m i, place_high i q, count_rest f g f' g' x y j v i m (λ e. omega arith) (λ e. omega arith)))
      (λ q.
      let e : i ≡ y = omega arith in
      rw e (omega (arith, place_next f g m y, place_next f' g' m y, place_mid y up (omega arith), count_come m in_links_said)))

  -- ---- the places of the other links: before the link's old place, between, or behind its new one

  never : {R : Type 0} {b : Bool} → b ≡ true → b ≡ false → R
  never p q = absurd (let z : ◌≡◌ {A = Bool} true false = sym p ∙ q in let n : ◌≡◌ {A = ℕ} 1 0 = ap bit' z in let o : ⊥ = omega arith in o)
    where
      bit' : Bool → ℕ
      bit' true = 1
      bit' false = 0

  more_than : {a b : ℕ} → a ≤ b → (b ≡ a → ⊥) → a < b
  more_than {a} {b} h d = ⊎_elim (λ (e : a ≡ b). absurd (d (sym e))) (λ (q : a < b). q) (eq-or-lt_of_le h)

  -- a link at a node behind x has its place behind the link's old one
  behind_x : (i k : ℕ) → x < i → i ≤ y → at f g m x j ≤ at f' g' m i k
  behind_x i k h e = omega (arith, at_within f g m x j i h in_links_said v.was, place_mid i h e)

  -- what is said of the place of link k at node i
  module _ {R : Type 0} (i k : ℕ) (b : k < m) (t : touches_at f g i k ≡ true) (t' : touches_at f' g' i k ≡ true)
      (low : at f g m i k < at f g m x j → at f' g' m i k ≡ at f g m i k → R)
      (mid : at f g m x j ≤ at f' g' m i k → at f' g' m i k < at f' g' m y j → at f g m i k ≡ at f' g' m i k + 1 → R)
      (high : at f' g' m y j < at f g m i k → at f' g' m i k ≡ at f g m i k → R) where
    at_x : i ≡ x → R
    at_x e =
        let s : touches_at f g x k ≡ true = subst (λ (z : ℕ). touches_at f g z k ≡ true) e t in
        let s' : touches_at f' g' x k ≡ true = subst (λ (z : ℕ). touches_at f' g' z k ≡ true) e t' in
        let p : at f g m i k ≡ at f g m x k = ap (λ (z : ℕ). at f g m z k) e in
        let p' : at f' g' m i k ≡ at f' g' m x k = ap (λ (z : ℕ). at f' g' m z k) e in
        below_or k j
        (λ h. low (omega (arith, p, counted f g x k j s h)) (omega (arith, p, p', place_low x (omega arith), count_low f g f' g' x y j v x k (omega arith))))
        (λ h. same_or k j
        (λ c. never (subst (λ (z : ℕ). touches_at f' g' x z ≡ true) c s') v.gone)
        (λ d. let l : j < k = more_than h d in mid
        (omega (arith, p', place_low x (omega arith), count_left f g f' g' x y j v k l, count_more f g x j v.was, count_grows f g x (suc j) k l))
        (omega (arith, p', at_within f' g' m x k y up b s'))
        (omega (arith, p, p', place_low x (omega arith), count_left f g f' g' x y j v k l))))

    at_y : i ≡ y → R
    at_y e =
        let s : touches_at f g y k ≡ true = subst (λ (z : ℕ). touches_at f g z k ≡ true) e t in
        let s' : touches_at f' g' y k ≡ true = subst (λ (z : ℕ). touches_at f' g' z k ≡ true) e t' in
        let p : at f g m i k ≡ at f g m y k = ap (λ (z : ℕ). at f g m z k) e in
        let p' : at f' g' m i k ≡ at f' g' m y k = ap (λ (z : ℕ). at f' g' m z k) e in
        below_or k j
        (λ h. mid (omega (arith, p', behind_x y k up (omega arith))) (omega (arith, p', counted f' g' y k j s' h)) (omega (arith, p, p', place_mid y up (omega arith), count_low f g f' g' x y j v y k (omega arith))))
        (λ h. same_or k j
        (λ c. never (subst (λ (z : ℕ). touches_at f g y z ≡ true) c s) v.wanted)
        (λ d. let l : j < k = more_than h d in high
        (omega (arith, p, place_mid y up (omega arith), count_come k l, count_more f' g' y j v.came, count_grows f' g' y (suc j) k l))
        (omega (arith, p, p', place_mid y up (omega arith), count_come k l))))

    pub position : R
    position =
        below_or i x
        (λ q. low (omega (arith, at_within f g m i k x q b t)) (omega (arith, place_low i (omega arith), count_rest f g f' g' x y j v i k (λ e. omega arith) (λ e. omega arith))))
        (λ q. same_or i x
        at_x
        (λ d. let l : x < i = more_than q d in below_or i y
        (λ w. mid
        (behind_x i k l (omega arith))
        (omega (arith, at_within f' g' m i k y w b t'))
        (omega (arith, place_mid i l (omega arith), count_rest f g f' g' x y j v i k d (λ e. omega arith))))
        (λ w. same_or i y
        at_y
        (λ o. let far : y < i = more_than w o in high
        (omega (arith, at_within f' g' m y j i far in_links_said v.came, place_high i far))
        (omega (arith, place_high i far, count_rest f g f' g' x y j v i k d o))))))
