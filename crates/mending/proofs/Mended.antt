-- The columns after one end is moved, and after both. Assumes nothing.
use Prim.Native.Nat.{ℕ, zero, suc, ◌+◌, ◌-◌, ◌≤◌, ◌<◌}
use mathlib.Core.Path.{◌≡◌, refl, sym, ap, subst, ◌∙◌}
use mathlib.Core.Bool.{Bool, true, false, ◌||◌}
use mathlib.Core.List.{List, ◌++◌}
use mathlib.Core.Logic.{⊎_elim}
use native.Mathlib.Nat.{eq-or-lt_of_le}
use native.Mathlib.Numerals.{add-one}
use native.Mathlib.Omega.{arith}
use borrow.Author.Tests.{eqb-true, eq-eqb, ne_eqb}
use lib.Dec.{eqb}
use lib.ListN.{length, get_or, set, drop, length-append, length-drop, get_or-append}
use lib.Seq.{get_or-set_same, get_or-set_other, set-get_or, set-set, ext_get_or}
use Rattle.touching.specs.Touching.{in_column, touches_at, touching_at, listed_of, place_of, places_of, Joined, Listed}
use Rattle.touching.proofs.Laws.{same_or, below_or, at_start, at_neither, count_grows, place_next, place_grows, entry_is}
use Rattle.touching.proofs.Turns.{places_count, places_at, listed_count, listed_at, behind}
use Rattle.mending.specs.Mending.{Sought, Lowered, Raised, Less, More, Kept, Goes, Mended}
use Rattle.mending.proofs.Moves.{before, counted, rank_back, at, at_within, at_listed, listed_by, Moves, swap, count_low, place_low, place_mid, place_high, position}

pub more_than : {a b : ℕ} → a ≤ b → (b ≡ a → ⊥) → a < b
more_than {a} {b} h d = ⊎_elim (λ (e : a ≡ b). absurd (d (sym e))) (λ (q : a < b). q) (eq-or-lt_of_le h)

-- ---- where a link stands or would stand

module _ (f g : ℕ → ℕ) (n m : ℕ) (places listed : List ℕ) (r : Listed f g n m places listed) (i j : ℕ) (h : i < n) (b : j < m) where
  first_is : get_or places i 0 ≡ place_of f g m i
  first_is = r.place i (omega arith)

  ends_at : get_or places (i + 1) 0 ≡ place_of f g m i + before f g m i
  ends_at = omega (arith, r.place (i + 1) (omega arith), ap (place_of f g m) (add-one i), place_next f g m i)

  -- what seeking asks of the columns
  pub seekable : (i + 1 < length places) × ((get_or places i 0 ≤ get_or places (i + 1) 0) × (get_or places (i + 1) 0 ≤ length listed))
  seekable = (omega (arith, r.places_long), (omega (arith, first_is, ends_at), omega (arith, ends_at, place_next f g m i, place_grows f g m (suc i) n h, r.listed_long)))

  entry_at : (t : ℕ) → place_of f g m i ≤ t → t < place_of f g m i + before f g m i → get_or listed t 0 ≡ get_or (touching_at f g m i) (t - place_of f g m i) 0
  entry_at t a c =
      let e : t ≡ place_of f g m i + (t - place_of f g m i) = omega arith in
      ap (λ (z : ℕ). get_or listed z 0) e ∙ r.entry i (t - place_of f g m i) h (omega arith)

  pub sought_is : (p : ℕ) → Sought listed (get_or places i 0) (get_or places (i + 1) 0) j p → p ≡ at f g m i j
  sought_is p s =
      below_or p (at f g m i j)
      (λ q.
      -- the link at place p is not below j, and yet fewer are before it
      let k : ℕ = get_or (touching_at f g m i) (p - place_of f g m i) 0 in
      let in-part : p < place_of f g m i + before f g m i = omega (arith, count_grows f g i j m (omega arith)) in
      let e = entry_at p (omega (arith, s.from, first_is)) in-part in
      let back : before f g k i ≡ p - place_of f g m i = rank_back f g i m (p - place_of f g m i) (omega (arith, s.from, first_is)) in
      let not_below : j ≤ k = omega (arith, s.here (omega (arith, ends_at)), e) in
      absurd (omega (arith, back, count_grows f g i j k not_below, s.from, first_is)))
      (λ q. below_or (at f g m i j) p
      (λ w.
      -- the link at place `at` is below j, and yet as many are before it
      let t : ℕ = at f g m i j in
      let in-part : t < place_of f g m i + before f g m i = omega (arith, s.to, ends_at) in
      let k : ℕ = get_or (touching_at f g m i) (t - place_of f g m i) 0 in
      let e = entry_at t (omega arith) in-part in
      let is = entry_is f g i m (t - place_of f g m i) (omega arith) in
      let back : before f g k i ≡ t - place_of f g m i = rank_back f g i m (t - place_of f g m i) (omega arith) in
      let below : k < j = omega (arith, s.before t (omega (arith, first_is)) w, e) in
      absurd (omega (arith, back, counted f g i k j is.1 below)))
      (λ w. omega arith))

-- ---- one end moved

module _ (f g f' g' : ℕ → ℕ) (n m x y j : ℕ) (v : Moves f g f' g' x y j) (up : x < y) (in-nodes : y < n) (in_links_said : j < m) (places listed places' listed' : List ℕ) where
  -- other links touch the same nodes before and after
  old_touches : (i k : ℕ) → touches_at f' g' i k ≡ true → ((i ≡ y) × (k ≡ j) → ⊥) → touches_at f g i k ≡ true
  old_touches i k t d =
      same_or k j
      (λ e. same_or i x
      (λ z. absurd (let o : ◌≡◌ {A = Bool} true false = sym (subst (λ (a : ℕ). touches_at f' g' i a ≡ true) e t) ∙ subst (λ (a : ℕ). touches_at f' g' a j ≡ false) (sym z) v.gone in let u : ◌≡◌ {A = ℕ} 0 1 = cc in let w : ⊥ = omega arith in w))
      (λ z. same_or i y
      (λ w. absurd (d (w, e)))
      (λ w. rw e (v.rest i z w ∙ subst (λ (a : ℕ). touches_at f' g' i a ≡ true) e t))))
      (λ e. v.other i k e ∙ t)

  new_touches : (i k : ℕ) → touches_at f g i k ≡ true → ((i ≡ x) × (k ≡ j) → ⊥) → touches_at f' g' i k ≡ true
  new_touches i k t d =
      same_or k j
      (λ e. same_or i y
      (λ z. absurd (let o : ◌≡◌ {A = Bool} true false = sym (subst (λ (a : ℕ). touches_at f g i a ≡ true) e t) ∙ subst (λ (a : ℕ). touches_at f g a j ≡ false) (sym z) v.wanted in let u : ◌≡◌ {A = ℕ} 0 1 = cc in let w : ⊥ = omega arith in w))
      (λ z. same_or i x
      (λ w. absurd (d (w, e)))
      (λ w. rw e (sym (v.rest i w z) ∙ subst (λ (a : ℕ). touches_at f g i a ≡ true) e t))))
      (λ e. sym (v.other i k e) ∙ t)

  -- up: from x to y, where x is before y
  pub moved_on : Listed f g n m places listed → Lowered (at f g m x j) (at f' g' m y j) j listed listed' → Less x y places places' → Listed f' g' n m places' listed'
  moved_on r s z =
      listed_by f' g' n m places' listed'
      (omega (arith, z.long, r.places_long))
      (omega (arith, s.long, r.listed_long, place_high f g f' g' m x y j v up in_links_said n in-nodes))
      (λ i h. below_or x i
      (λ a. below_or y i
      (λ b. z.above i b ∙ r.place i h ∙ place_high f g f' g' m x y j v up in_links_said i b)
      (λ b. omega (arith, z.inside i a b, r.place i h, place_mid f g f' g' m x y j v up in_links_said i a b)))
      (λ a. z.below i a ∙ r.place i h ∙ place_low f g f' g' m x y j v up in_links_said i a))
      (λ i k h b t. same_or i y
      (λ c. same_or k j
      (λ e. rw (c, e) s.put)
      (λ e. elsewhere i k h b t (λ w. e w.1)))
      (λ c. elsewhere i k h b t (λ w. c w.0)))
    where
      elsewhere : (i k : ℕ) → i < n → k < m → touches_at f' g' i k ≡ true → ((i ≡ y) × (k ≡ j) → ⊥) → get_or listed' (at f' g' m i k) 0 ≡ k
      elsewhere i k h b t d =
          let t₀ = old_touches i k t d in
          let was = at_listed f g n m places listed r i k h b t₀ in
          position f g f' g' m x y j v up in_links_said i k b t₀ t
          (λ a e. ap (λ (q : ℕ). get_or listed' q 0) e ∙ s.below (at f g m i k) a ∙ was)
          (λ a c e. s.between (at f' g' m i k) a c ∙ ap (λ (q : ℕ). get_or listed q 0) (sym e) ∙ was)
          (λ a e. ap (λ (q : ℕ). get_or listed' q 0) e ∙ s.above (at f g m i k) a ∙ was)

  -- back: from y to x
  pub moved_back : Listed f' g' n m places listed → Raised (at f g m x j) (at f' g' m y j) j listed listed' → More x y places places' → Listed f g n m places' listed'
  moved_back r s z =
      listed_by f g n m places' listed'
      (omega (arith, z.long, r.places_long))
      (omega (arith, s.long, r.listed_long, place_high f g f' g' m x y j v up in_links_said n in-nodes))
      (λ i h. below_or x i
      (λ a. below_or y i
      (λ b. z.above i b ∙ r.place i h ∙ sym (place_high f g f' g' m x y j v up in_links_said i b))
      (λ b. omega (arith, z.inside i a b, r.place i h, place_mid f g f' g' m x y j v up in_links_said i a b)))
      (λ a. z.below i a ∙ r.place i h ∙ sym (place_low f g f' g' m x y j v up in_links_said i a)))
      (λ i k h b t. same_or i x
      (λ c. same_or k j
      (λ e. rw (c, e) s.put)
      (λ e. elsewhere i k h b t (λ w. e w.1)))
      (λ c. elsewhere i k h b t (λ w. c w.0)))
    where
      elsewhere : (i k : ℕ) → i < n → k < m → touches_at f g i k ≡ true → ((i ≡ x) × (k ≡ j) → ⊥) → get_or listed' (at f g m i k) 0 ≡ k
      elsewhere i k h b t d =
          let t₁ = new_touches i k t d in
          let was = at_listed f' g' n m places listed r i k h b t₁ in
          position f g f' g' m x y j v up in_links_said i k b t t₁
          (λ a e. s.below (at f g m i k) a ∙ ap (λ (q : ℕ). get_or listed q 0) (sym e) ∙ was)
          (λ a c e. ap (λ (q : ℕ). get_or listed' q 0) e ∙ s.between (at f' g' m i k) a c ∙ was)
          (λ a e. s.above (at f g m i k) a ∙ ap (λ (q : ℕ). get_or listed q 0) (sym e) ∙ was)

  -- behind the nodes and behind what is listed nothing moved
  last_in_lem : at f' g' m y j < place_of f g m n
  last_in_lem = omega (arith, at_within f' g' m y j n in-nodes in_links_said v.came, place_high f g f' g' m x y j v up in_links_said n in-nodes)

  pub kept_on : Lowered (at f g m x j) (at f' g' m y j) j listed listed' → Less x y places places' → Kept n (place_of f g m n) places listed places' listed'
  kept_on s z = record { places_past = λ i h. z.above i (omega arith); listed_past = λ p h. s.above p (omega (arith, last_in_lem)) }

  pub kept_back : Raised (at f g m x j) (at f' g' m y j) j listed listed' → More x y places places' → Kept n (place_of f g m n) places listed places' listed'
  kept_back s z = record { places_past = λ i h. z.above i (omega arith); listed_past = λ p h. s.above p (omega (arith, last_in_lem)) }

-- ---- the columns of ends

module _ (x o : List ℕ) (j y : ℕ) (long : j < length x) where
  same_elsewhere : (k : ℕ) → (k ≡ j → ⊥) → in_column (set x j y) k ≡ in_column x k
  unfolding in_column
  same_elsewhere k d = get_or-set_other x j k y 0 d

  pub put_there : in_column (set x j y) j ≡ y
  unfolding in_column
  put_there = get_or-set_same x j y 0 long

  -- an end that is put at another node, which the link does not touch
  pub end_moves : (in_column x j ≡ y → ⊥) → (in_column o j ≡ in_column x j → ⊥) → (in_column o j ≡ y → ⊥) → Moves (in_column x) (in_column o) (in_column (set x j y)) (in_column o) (in_column x j) y j
  unfolding touches_at
  end_moves d p q =
      record {
        other = λ i k e. ap (λ (z : ℕ). eqb z i || eqb (in_column o k) i) (sym (same_elsewhere k e));
        rest = λ i a b. ap (λ (z : Bool). z || eqb (in_column o j) i) (ne_eqb (in_column x j) i (λ z. a (sym z)) ∙ sym (ne_eqb (in_column (set x j y) j) i (λ z. b (sym z ∙ put_there))));
        was = at_start (in_column x) (in_column o) (in_column x j) j refl;
        gone = at_neither (in_column (set x j y)) (in_column o) (in_column x j) j (λ z. d (sym z ∙ put_there)) p;
        wanted = at_neither (in_column x) (in_column o) y j d q;
        came = at_start (in_column (set x j y)) (in_column o) y j put_there;
      }

-- ---- one end, by the code

-- where it stays
pub end_stays : (x o : List ℕ) (n m j y : ℕ) (places listed : List ℕ) → Listed (in_column x) (in_column o) n m places listed → in_column x j ≡ y
    → (x ≡ set x j y) × (Mended (in_column x) (in_column o) (in_column (set x j y)) (in_column o) n m places listed places listed)
unfolding in_column
end_stays x o n m j y places listed r e =
    let same : x ≡ set x j y = sym (ap (set x j) (sym e) ∙ set-get_or x j 0) in (
      same,
      record {
        right = subst (λ (z : List ℕ). Listed (in_column z) (in_column o) n m places listed) same r;
        total = ap (λ (z : List ℕ). place_of (in_column z) (in_column o) m n) (sym same);
        kept = record { places_past = λ i h. refl; listed_past = λ p h. refl };
      },
    )

module _ (x o : List ℕ) (n m j y : ℕ) (places listed : List ℕ) (r : Listed (in_column x) (in_column o) n m places listed) (c : Goes x o n m j y) (d : in_column x j ≡ y → ⊥)
    (p q : ℕ) (sp : Sought listed (get_or places (in_column x j) 0) (get_or places (in_column x j + 1) 0) j p) (sq : Sought listed (get_or places y 0) (get_or places (y + 1) 0) j q) where
  moves : Moves (in_column x) (in_column o) (in_column (set x j y)) (in_column o) (in_column x j) y j
  moves = end_moves x o j y (omega (arith, c.in_links_said, c.long)) d c.apart c.free

  p_is : p ≡ at (in_column x) (in_column o) m (in_column x j) j
  p_is = sought_is (in_column x) (in_column o) n m places listed r (in_column x j) j c.was_in c.in_links_said p sp

  q_is : q ≡ at (in_column x) (in_column o) m y j
  q_is = sought_is (in_column x) (in_column o) n m places listed r y j c.is_in c.in_links_said q sq

  module _ (up : in_column x j < y) where
    -- one less behind than where it would stand
    new_is : q ≡ at (in_column (set x j y)) (in_column o) m y j + 1
    new_is = omega (arith, q_is, place_mid (in_column x) (in_column o) (in_column (set x j y)) (in_column o) m (in_column x j) y j moves up c.in_links_said y up (omega arith), count_low (in_column x) (in_column o) (in_column (set x j y)) (in_column o) (in_column x j) y j moves y j (omega arith))

    pub on_fits : (0 < q) × ((p ≤ q - 1) × (q - 1 < length listed))
    on_fits = (
      omega (arith, new_is),
      (
        omega (arith, p_is, q_is, at_within (in_column x) (in_column o) m (in_column x j) j y up c.in_links_said moves.was),
        omega (arith, new_is, last_in_lem (in_column x) (in_column o) (in_column (set x j y)) (in_column o) n m (in_column x j) y j moves up c.is_in c.in_links_said places listed places listed, r.listed_long),
      ),
    )

    pub on_some : (i : ℕ) → in_column x j < i → i ≤ y → 0 < get_or places i 0
    on_some i a b = omega (arith, r.place i (omega (arith, c.is_in)), place_mid (in_column x) (in_column o) (in_column (set x j y)) (in_column o) m (in_column x j) y j moves up c.in_links_said i a b)

    pub on-mended : (places' listed' : List ℕ) → Lowered p (q - 1) j listed listed' → Less (in_column x j) y places places'
        → Mended (in_column x) (in_column o) (in_column (set x j y)) (in_column o) n m places listed places' listed'
    on-mended places' listed' s z =
        let e : q - 1 ≡ at (in_column (set x j y)) (in_column o) m y j = omega (arith, new_is) in
        let w : Lowered (at (in_column x) (in_column o) m (in_column x j) j) (at (in_column (set x j y)) (in_column o) m y j) j listed listed' = subst (λ (b : ℕ). Lowered (at (in_column x) (in_column o) m (in_column x j) j) b j listed listed') e (subst (λ (a : ℕ). Lowered a (q - 1) j listed listed') p_is s) in
        record {
          right = moved_on (in_column x) (in_column o) (in_column (set x j y)) (in_column o) n m (in_column x j) y j moves up c.is_in c.in_links_said places listed places' listed' r w z;
          total = sym (place_high (in_column x) (in_column o) (in_column (set x j y)) (in_column o) m (in_column x j) y j moves up c.in_links_said n c.is_in);
          kept = kept_on (in_column x) (in_column o) (in_column (set x j y)) (in_column o) n m (in_column x j) y j moves up c.is_in c.in_links_said places listed places' listed' w z;
        }

  module _ (down : y < in_column x j) where
    back-moves : Moves (in_column (set x j y)) (in_column o) (in_column x) (in_column o) y (in_column x j) j
    back-moves = swap moves

    there-is : q ≡ at (in_column (set x j y)) (in_column o) m y j
    there-is = omega (arith, q_is, place_low (in_column (set x j y)) (in_column o) (in_column x) (in_column o) m y (in_column x j) j back-moves down c.in_links_said y (omega arith), count_low (in_column (set x j y)) (in_column o) (in_column x) (in_column o) y (in_column x j) j back-moves y j (omega arith))

    total-same : place_of (in_column (set x j y)) (in_column o) m n ≡ place_of (in_column x) (in_column o) m n
    total-same = place_high (in_column (set x j y)) (in_column o) (in_column x) (in_column o) m y (in_column x j) j back-moves down c.in_links_said n c.was_in

    pub back_fits : (q ≤ p) × (p < length listed)
    back_fits = (
      omega (arith, p_is, there-is, at_within (in_column (set x j y)) (in_column o) m y j (in_column x j) down c.in_links_said moves.came, place_mid (in_column (set x j y)) (in_column o) (in_column x) (in_column o) m y (in_column x j) j back-moves down c.in_links_said (in_column x j) down (omega arith)),
      omega (arith, p_is, at_within (in_column x) (in_column o) m (in_column x j) j n c.was_in c.in_links_said moves.was, r.listed_long),
    )

    pub back_some : (i : ℕ) → i ≤ in_column x j → get_or places i 0 ≤ length listed
    back_some i b = omega (arith, r.place i (omega (arith, c.was_in)), place_grows (in_column x) (in_column o) m i n (omega (arith, c.was_in)), r.listed_long)

    pub back-mended : (places' listed' : List ℕ) → Raised q p j listed listed' → More y (in_column x j) places places'
        → Mended (in_column x) (in_column o) (in_column (set x j y)) (in_column o) n m places listed places' listed'
    back-mended places' listed' s z =
        let w : Raised (at (in_column (set x j y)) (in_column o) m y j) (at (in_column x) (in_column o) m (in_column x j) j) j listed listed' = subst (λ (b : ℕ). Raised (at (in_column (set x j y)) (in_column o) m y j) b j listed listed') p_is (subst (λ (a : ℕ). Raised a p j listed listed') there-is s) in
        let k = kept_back (in_column (set x j y)) (in_column o) (in_column x) (in_column o) n m y (in_column x j) j back-moves down c.was_in c.in_links_said places listed places' listed' w z in
        record {
          right = moved_back (in_column (set x j y)) (in_column o) (in_column x) (in_column o) n m y (in_column x j) j back-moves down c.was_in c.in_links_said places listed places' listed' r w z;
          total = total-same;
          kept = record { places_past = k.places_past; listed_past = λ t h. k.listed_past t (omega (arith, total-same)) };
        }

-- ---- both ends

-- what touches the same nodes lists the same
module _ (f g f' g' : ℕ → ℕ) (n m : ℕ) (alike : (i k : ℕ) → touches_at f g i k ≡ touches_at f' g' i k) where
  touching_alike : (k i : ℕ) → touching_at f g k i ≡ touching_at f' g' k i
  unfolding touching_at
  touching_alike zero i = refl
  touching_alike (suc k) i = rw (alike i k, touching_alike k i)

  place_alike : (i : ℕ) → place_of f g m i ≡ place_of f' g' m i
  unfolding place_of
  place_alike zero = refl
  place_alike (suc i) = rw (place_alike i, touching_alike m i)

  pub listed_alike : (places listed : List ℕ) → Listed f g n m places listed → Listed f' g' n m places listed
  listed_alike places listed r =
      record {
        places_long = r.places_long;
        listed_long = rw (← place_alike n) r.listed_long;
        place = λ i h. r.place i h ∙ place_alike i;
        entry = λ i k h b. rw (← place_alike i, ← touching_alike m i) (r.entry i k h (subst (λ (z : List ℕ). k < length z) (sym (touching_alike m i)) b));
      }

  pub mended_alike : (f₀ g₀ : ℕ → ℕ) (p₀ l₀ p l : List ℕ) → Mended f₀ g₀ f g n m p₀ l₀ p l → Mended f₀ g₀ f' g' n m p₀ l₀ p l
  mended_alike f₀ g₀ p₀ l₀ p l v = record { right = listed_alike p l v.right; total = sym (place_alike n) ∙ v.total; kept = v.kept }

-- the two ends of a link are named the other way round
or_swap : (a b : Bool) → (a || b) ≡ (b || a)
or_swap true true = refl
or_swap true false = refl
or_swap false true = refl
or_swap false false = refl

pub touches_swap : (f g : ℕ → ℕ) (i k : ℕ) → touches_at f g i k ≡ touches_at g f i k
unfolding touches_at
touches_swap f g i k = or_swap (eqb (f k) i) (eqb (g k) i)

-- one mending behind the other
pub mended_then : (f g f₁ g₁ f₂ g₂ : ℕ → ℕ) (n m : ℕ) (p₀ l₀ p₁ l₁ p₂ l₂ : List ℕ) → Mended f g f₁ g₁ n m p₀ l₀ p₁ l₁ → Mended f₁ g₁ f₂ g₂ n m p₁ l₁ p₂ l₂ → Mended f g f₂ g₂ n m p₀ l₀ p₂ l₂
mended_then f g f₁ g₁ f₂ g₂ n m p₀ l₀ p₁ l₁ p₂ l₂ a b =
    record {
      right = b.right;
      total = b.total ∙ a.total;
      kept = record {
        places_past = λ i h. b.kept.places_past i h ∙ a.kept.places_past i h;
        listed_past = λ p h. b.kept.listed_past p (rw a.total h) ∙ a.kept.listed_past p h;
      };
    }

pub mended_swap : (f g f₁ g₁ : ℕ → ℕ) (n m : ℕ) (p₀ l₀ p₁ l₁ : List ℕ) → Mended f g f₁ g₁ n m p₀ l₀ p₁ l₁ → Mended g f g₁ f₁ n m p₀ l₀ p₁ l₁
mended_swap f g f₁ g₁ n m p₀ l₀ p₁ l₁ v =
    record {
      right = listed_alike f₁ g₁ g₁ f₁ n m (touches_swap f₁ g₁) p₁ l₁ v.right;
      total = sym (place_alike f₁ g₁ g₁ f₁ n m (touches_swap f₁ g₁) n) ∙ v.total ∙ place_alike f g g f n m (touches_swap f g) n;
      kept = record { places_past = v.kept.places_past; listed_past = λ p h. v.kept.listed_past p (rw (place_alike f g g f n m (touches_swap f g) n) h) };
    }

-- mended columns are those built afresh
module _ (f g f' g' : ℕ → ℕ) (n m : ℕ) (p₀ l₀ p l : List ℕ) (v : Mended f g f' g' n m p₀ l₀ p l) (p-long : length p ≡ length p₀) (l-long : length l ≡ length l₀) where
  pub places_made : p ≡ places_of f' g' m (suc n) ++ drop (suc n) p₀
  places_made =
      ext_get_or 0 p (places_of f' g' m (suc n) ++ drop (suc n) p₀)
      (omega (arith, length-append (places_of f' g' m (suc n)) (drop (suc n) p₀), length-drop (suc n) p₀, places_count f' g' m (suc n), v.right.places_long))
      (λ i h. below_or i (suc n)
      (λ q. v.right.place i (omega arith) ∙ sym (get_or-append (places_of f' g' m (suc n)) (drop (suc n) p₀) 0 i (omega (arith, places_count f' g' m (suc n))) ∙ places_at f' g' m (suc n) i q))
      (λ q. v.kept.places_past i q ∙ sym (behind f' g' (places_of f' g' m (suc n)) p₀ (suc n) i (places_count f' g' m (suc n)) q)))

  pub listed_made : l ≡ listed_of f' g' m n ++ drop (place_of f' g' m n) l₀
  listed_made =
      ext_get_or 0 l (listed_of f' g' m n ++ drop (place_of f' g' m n) l₀)
      (omega (arith, length-append (listed_of f' g' m n) (drop (place_of f' g' m n) l₀), length-drop (place_of f' g' m n) l₀, listed_count f' g' m n, v.right.listed_long))
      (λ t h. below_or t (place_of f' g' m n)
      (λ q. sym (get_or-append (listed_of f' g' m n) (drop (place_of f' g' m n) l₀) 0 t (omega (arith, listed_count f' g' m n)) ∙ listed_at f' g' m n l (λ i k a b. v.right.entry i k a b) t q))
      (λ q. v.kept.listed_past t (omega (arith, v.total)) ∙ sym (behind f' g' (listed_of f' g' m n) l₀ (place_of f' g' m n) t (listed_count f' g' m n) q)))

-- the first end is put at u, then the second at w
module _ (x o : List ℕ) (n m j u w : ℕ) (joined : Joined (in_column x) (in_column o) n m) (x_long : m ≤ length x) (o-long : m ≤ length o) (b : j < m) (hu : u < n) (hw : w < n) (d : u ≡ w → ⊥)
    (free : in_column o j ≡ u → ⊥) where
  pub first_goes : Goes x o n m j u
  first_goes = record { in_links_said = b; long = x_long; was_in = joined.start_in j b; is_in = hu; apart = λ e. joined.apart j b (sym e); free = free }

  module _ (x₁ p₀ l₀ p₁ l₁ : List ℕ) (e : x₁ ≡ set x j u) (v : Mended (in_column x) (in_column o) (in_column (set x j u)) (in_column o) n m p₀ l₀ p₁ l₁) where
    pub second-right : Listed (in_column o) (in_column x₁) n m p₁ l₁
    second-right = rw e (listed_alike (in_column (set x j u)) (in_column o) (in_column o) (in_column (set x j u)) n m (touches_swap (in_column (set x j u)) (in_column o)) p₁ l₁ v.right)

    there : in_column x₁ j ≡ u
    there = ap (λ (z : List ℕ). in_column z j) e ∙ put_there x o j u (omega arith)

    pub second-goes : Goes o x₁ n m j w
    second-goes = record { in_links_said = b; long = o-long; was_in = joined.end_in j b; is_in = hw; apart = λ z. free (sym z ∙ there); free = λ z. d (sym there ∙ z) }

    pub both-mended : (p₂ l₂ : List ℕ) → Mended (in_column o) (in_column x₁) (in_column (set o j w)) (in_column x₁) n m p₁ l₁ p₂ l₂
        → Mended (in_column x) (in_column o) (in_column (set x j u)) (in_column (set o j w)) n m p₀ l₀ p₂ l₂
    both-mended p₂ l₂ z =
        let y : Mended (in_column o) (in_column (set x j u)) (in_column (set o j w)) (in_column (set x j u)) n m p₁ l₁ p₂ l₂ = subst (λ (c : List ℕ). Mended (in_column o) (in_column c) (in_column (set o j w)) (in_column c) n m p₁ l₁ p₂ l₂) e z in
        mended_then (in_column x) (in_column o) (in_column (set x j u)) (in_column o) (in_column (set x j u)) (in_column (set o j w)) n m p₀ l₀ p₁ l₁ p₂ l₂ v
        (mended_swap (in_column o) (in_column (set x j u)) (in_column (set o j w)) (in_column (set x j u)) n m p₁ l₁ p₂ l₂ y)

-- the same two nodes, the other way round
pub crossed_mended : (x o : List ℕ) (n m j u w : ℕ) → j < length x → j < length o → (f g : ℕ → ℕ) (p₀ l₀ p l : List ℕ)
    → Mended f g (in_column (set x j u)) (in_column (set o j w)) n m p₀ l₀ p l → Mended f g (in_column (set x j w)) (in_column (set o j u)) n m p₀ l₀ p l
unfolding touches_at
crossed_mended x o n m j u w hx ho f g p₀ l₀ p l v =
    mended_alike (in_column (set x j u)) (in_column (set o j w)) (in_column (set x j w)) (in_column (set o j u)) n m
    (λ i k. same_or k j
    (λ e. rw (e, put_there x o j u hx, put_there o x j w ho, put_there x o j w hx, put_there o x j u ho) (or_swap (eqb u i) (eqb w i)))
    (λ d. rw (same_elsewhere x o j u hx k d, same_elsewhere o x j w ho k d, same_elsewhere x o j w hx k d, same_elsewhere o x j u ho k d)))
    f g p₀ l₀ p l v

pub set_twice : (x x₁ : List ℕ) (j u w : ℕ) → x₁ ≡ set x j u → set x₁ j w ≡ set x j w
set_twice x x₁ j u w e = rw e (set-set x j u w)

-- what the test of the ends tells
pub crossed_free : (s e a b : ℕ) → (eqb s b || eqb e a) ≡ true → (s ≡ e → ⊥) → (a ≡ b → ⊥) → b ≡ e → ⊥
crossed_free s e a b t d q z = go (eqb s b) refl t
  where
    go : (c : Bool) → eqb s b ≡ c → (c || eqb e a) ≡ true → ⊥
    go true w t = d (eqb-true s b w ∙ z)
    go false w t = q (sym (eqb-true e a t) ∙ sym z)

pub uncrossed_free : (s e a b : ℕ) → (eqb s b || eqb e a) ≡ false → b ≡ s → ⊥
uncrossed_free s e a b t z =
    let n : ◌≡◌ {A = Bool} true false = ap (λ (c : Bool). c || eqb e a) (sym (eq-eqb s b (sym z))) ∙ t in
    let u : ◌≡◌ {A = ℕ} 0 1 = cc in
    omega arith
