-- The numbering: a turn of its loop; and that it is a bijection between the junctions in service and the numbers below their count, rising in node order.
-- Assumes nothing.
use mathlib.Core.Path.{◌≡◌, refl, sym, ap, ◌∙◌, subst}
use mathlib.Core.Bool.{Bool, true, false, cond}
use mathlib.Core.Logic.{⊎_elim}
use mathlib.Core.List.{List}
use Prim.Native.Nat.{ℕ, zero, suc, ◌+◌, ◌-◌, ◌≤◌, ◌<◌}
use native.Mathlib.Nat.{eq-or-lt_of_le, le_of_suc-le-suc, le_of_eq, le_trans, le_antisymm, lt_of_not-le, lt_irrefl, add-zero, add-suc}
use native.Mathlib.Numerals.{add-one}
use native.Mathlib.Omega.{arith}
use lib.Dec.{T}
use lib.ListN.{length, get_or, set, length-set}
use lib.Seq.{get_or-set_same, get_or-set_other}
use Rattle.layout.specs.declared.places.Layout.{Layout}
use Rattle.nodes.specs.Nodes.{in_service, serving}
use borrow.Author.Tests.{ne_eqb}
use Rattle.numbering.specs.Numbering.{no_unknown, numbered, row_of}
use Rattle.std.specs.Prelude.{None, Some}

module _ (s : List ℕ) (l : Layout) where
  -- ---- one node more

  serving_in : (i : ℕ) → in_service s l i ≡ true → serving s l (suc i) ≡ suc (serving s l i)
  unfolding serving
  serving_in i h = rw h

  serving_out : (i : ℕ) → in_service s l i ≡ false → serving s l (suc i) ≡ serving s l i
  unfolding serving
  serving_out i h = rw h

  numbered_in : (i : ℕ) (x : List ℕ) → in_service s l i ≡ true → numbered s l (suc i) x ≡ set (numbered s l i x) i (serving s l i)
  unfolding numbered
  numbered_in i x h = rw h

  numbered_out : (i : ℕ) (x : List ℕ) → in_service s l i ≡ false → numbered s l (suc i) x ≡ set (numbered s l i x) i no_unknown
  unfolding numbered
  numbered_out i x h = rw h

  clash : {X : Type 0} → true ≡ false → X
  clash h = absurd (subst T h tt)

  -- ---- numbers rise by at most one a node

  step : (i : ℕ) → (serving s l i ≤ serving s l (suc i)) × (serving s l (suc i) ≤ suc (serving s l i))
  step i = go (in_service s l i) refl
    where
      go : (b : Bool) → in_service s l i ≡ b → (serving s l i ≤ serving s l (suc i)) × (serving s l (suc i) ≤ suc (serving s l i))
      go true h = (omega (arith, serving_in i h), omega (arith, serving_in i h))
      go false h = (omega (arith, serving_out i h), omega (arith, serving_out i h))

  none : serving s l 0 ≡ 0
  unfolding serving
  none = refl

  pub at_most : (i : ℕ) → serving s l i ≤ i
  at_most zero = omega (arith, none)
  at_most (suc i) = omega (arith, at_most i, step i)

  pub grows : (d i : ℕ) → serving s l i ≤ serving s l (i + d)
  grows zero i = le_of_eq (ap (serving s l) (sym (add-zero i)))
  grows (suc d) i = le_trans (grows d i) (subst (λ (k : ℕ). serving s l (i + d) ≤ serving s l k) (sym (add-suc i d)) (step (i + d)).0)

  pub monotone : {i j : ℕ} → i ≤ j → serving s l i ≤ serving s l j
  monotone {i} {j} h = let e : i + (j - i) ≡ j = omega arith in subst (λ (k : ℕ). serving s l i ≤ serving s l k) e (grows (j - i) i)

  -- ---- the numbering is one to one, onto the numbers below the count, and rises in node order

  -- a junction in service has a number below that of every later node, so its own alone, and below the count
  pub rising : {i j : ℕ} → in_service s l i ≡ true → i < j → serving s l i < serving s l j
  rising {i} {j} h x = omega (arith, serving_in i h, monotone {i = suc i} {j = j} x)

  pub one_to_one : {i j : ℕ} → in_service s l i ≡ true → in_service s l j ≡ true → serving s l i ≡ serving s l j → i ≡ j
  one_to_one {i} {j} h k e =
      le_antisymm
      (le_of_suc-le-suc (lt_of_not-le (λ (x : suc j ≤ i). lt_irrefl (serving s l i) (subst (λ (m : ℕ). m < serving s l i) (sym e) (rising {i = j} {j = i} k x)))))
      (le_of_suc-le-suc (lt_of_not-le (λ (x : suc i ≤ j). lt_irrefl (serving s l i) (subst (λ (m : ℕ). serving s l i < m) (sym e) (rising {i = i} {j = j} h x)))))

  -- the column of numbers holds each node's number, or the mark
  numbered_length : (i : ℕ) (x : List ℕ) → length (numbered s l i x) ≡ length x
  unfolding numbered
  numbered_length zero x = refl
  numbered_length (suc i) x = length-set (numbered s l i x) i (cond {A = ℕ} (in_service s l i) (serving s l i) no_unknown) ∙ numbered_length i x

  pub number_of : (n : ℕ) (x : List ℕ) → n ≤ length x → (i : ℕ) → i < n → get_or (numbered s l n x) i 0 ≡ cond {A = ℕ} (in_service s l i) (serving s l i) no_unknown
  unfolding numbered
  number_of zero x h i m = absurd (omega arith)
  number_of (suc n) x h i m =
      ⊎_elim
      (λ (q : i ≡ n). subst (λ (k : ℕ). get_or (set (numbered s l n x) n (cond {A = ℕ} (in_service s l n) (serving s l n) no_unknown)) k 0 ≡ cond {A = ℕ} (in_service s l k) (serving s l k) no_unknown) (sym q) (get_or-set_same (numbered s l n x) n (cond {A = ℕ} (in_service s l n) (serving s l n) no_unknown) 0 (omega (arith, numbered_length n x))))
      (λ (q : i < n). get_or-set_other (numbered s l n x) n i (cond {A = ℕ} (in_service s l n) (serving s l n) no_unknown) 0 (λ z. omega arith) ∙ number_of n x (omega arith) i q)
      (eq-or-lt_of_le (le_of_suc-le-suc m))

  -- every number below the count is a junction's in service
  pub onto : (n u : ℕ) → u < serving s l n → (i : ℕ) × ((i < n) × ((in_service s l i ≡ true) × (serving s l i ≡ u)))
  onto zero u h = absurd (omega (arith, none))
  onto (suc n) u h = go (in_service s l n) refl (λ (q : u < serving s l n). onto n u q)
    where
      go : (b : Bool) → in_service s l n ≡ b → (u < serving s l n → (i : ℕ) × ((i < n) × ((in_service s l i ≡ true) × (serving s l i ≡ u)))) → (i : ℕ) × ((i < suc n) × ((in_service s l i ≡ true) × (serving s l i ≡ u)))
      go false e f = let w = f (omega (arith, serving_out n e)) in (w.0, (omega (arith, w.1.0), w.1.1))
      go true e f =
          ⊎_elim
          (λ (q : u ≡ serving s l n). (n, (omega arith, (e, sym q))))
          (λ (q : u < serving s l n). let w = f q in (w.0, (omega (arith, w.1.0), w.1.1)))
          (eq-or-lt_of_le (le_of_suc-le-suc (subst (λ (m : ℕ). u < m) (serving_in n e) h)))

-- the loop after i nodes, with the column as it is and as it was
pub record Numbered (s : List ℕ) (l : Layout) (unknowns₀ unknowns : List ℕ) (count i : ℕ) : Type 0 where
  pub upto : i ≤ l.nodes
  pub counted : count ≡ serving s l i
  pub forth : unknowns ≡ numbered s l i unknowns₀
  pub long : length unknowns ≡ length unknowns₀

module _ (s : List ℕ) (l : Layout) (unknowns₀ : List ℕ) where
  pub start : Numbered s l unknowns₀ unknowns₀ 0 0
  unfolding serving numbered
  start = record { upto = omega arith; counted = refl; forth = refl; long = refl }

  module _ {unknowns : List ℕ} {count i : ℕ} (d : Numbered s l unknowns₀ unknowns count i) (more : i < l.nodes) where
    pub room : count ≤ i
    room = omega (arith, d.counted, at_most s l i)

    pub turn_in : in_service s l i ≡ true → Numbered s l unknowns₀ (set unknowns i count) (count + 1) (i + 1)
    turn_in h =
        record {
          upto = omega arith;
          counted = omega (arith, d.counted, serving_in s l i h, ap (serving s l) (add-one i));
          forth = ap (λ (x : List ℕ). set x i count) d.forth ∙ ap (set (numbered s l i unknowns₀) i) d.counted ∙ sym (ap (λ (k : ℕ). numbered s l k unknowns₀) (add-one i) ∙ numbered_in s l i unknowns₀ h);
          long = length-set unknowns i count ∙ d.long;
        }

    pub turn-out : in_service s l i ≡ false → Numbered s l unknowns₀ (set unknowns i no_unknown) count (i + 1)
    turn-out h =
        record {
          upto = omega arith;
          counted = d.counted ∙ sym (ap (serving s l) (add-one i) ∙ serving_out s l i h);
          forth = ap (λ (x : List ℕ). set x i no_unknown) d.forth ∙ sym (ap (λ (k : ℕ). numbered s l k unknowns₀) (add-one i) ∙ numbered_out s l i unknowns₀ h);
          long = length-set unknowns i no_unknown ∙ d.long;
        }

    -- the same of what the code holds after the branch
    pub after-in : (u : List ℕ) (k : ℕ) → u ≡ set unknowns i count → k ≡ count + 1 → in_service s l i ≡ true → Numbered s l unknowns₀ u k (i + 1)
    after-in u k p r h = rw (p, r) (turn_in h)

    pub after-out : (u : List ℕ) (k : ℕ) → u ≡ set unknowns i no_unknown → k ≡ count → in_service s l i ≡ false → Numbered s l unknowns₀ u k (i + 1)
    after-out u k p r h = rw (p, r) (turn-out h)

-- ---- what a node is in the matrix, of fewer nodes than the mark

module _ (s : List ℕ) (l : Layout) (n : ℕ) (x : List ℕ) (fits : n ≤ length x) (few : n ≤ no_unknown) (i : ℕ) (here : i < n) where
  pub row_in : in_service s l i ≡ true → row_of (numbered s l n x) i ≡ Some (record { 0 = serving s l i })
  unfolding row_of
  row_in h =
      let e : get_or (numbered s l n x) i 0 ≡ serving s l i = number_of s l n x fits i here ∙ ap (λ (b : Bool). cond {A = ℕ} b (serving s l i) no_unknown) h in
      rw e (simp (ne_eqb (serving s l i) no_unknown (λ z. omega (arith, at_most s l i))))

  pub row_out : in_service s l i ≡ false → row_of (numbered s l n x) i ≡ None
  unfolding row_of
  row_out h =
      let e : get_or (numbered s l n x) i 0 ≡ no_unknown = number_of s l n x fits i here ∙ ap (λ (b : Bool). cond {A = ℕ} b (serving s l i) no_unknown) h in
      rw e
