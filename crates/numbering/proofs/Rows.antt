-- The column that `number_unknowns` fills says each node's row, and a row is below the number of its node. Assumes nothing.
use mathlib.Core.Path.{◌≡◌, refl, sym, ap, ◌∙◌}
use mathlib.Core.Bool.{Bool, true, false, cond, ◌&&◌}
use mathlib.Core.Logic.{⊎_elim}
use mathlib.Core.List.{List}
use Prim.Native.Nat.{ℕ, zero, suc, ◌≤◌, ◌<◌}
use native.Mathlib.Nat.{eq-or-lt_of_le, le_of_suc-le-suc}
use native.Mathlib.Omega.{arith}
use borrow.Author.Tests.{eq-eqb, ne_eqb}
use lib.Dec.{eqb}
use lib.ListN.{length}
use Rattle.linear.specs.declared.factorization.UnknownIndex.{UnknownIndex}
use Rattle.layout.specs.declared.places.Layout.{Layout}
use Rattle.nodes.specs.Nodes.{in_service, serving}
use Rattle.numbering.specs.Numbering.{no_unknown, numbered, row_of, row_at, RowsRight, RowBelow, found_by, node_numbered, Row}
use Rattle.numbering.proofs.Numbers.{at_most, row_in, row_out, onto, rising}
use Rattle.std.specs.Prelude.{None, Some}
use Rattle.std.specs.Option.{option_eq}

pub rows_right : (s : List ℕ) (l : Layout) (x : List ℕ) → l.nodes ≤ length x → l.nodes ≤ no_unknown → RowsRight l s (numbered s l l.nodes x)
unfolding row_at
rows_right s l x h f = record { right = λ i k. go i k (in_service s l i) refl }
  where
    go : (i : ℕ) → i < l.nodes → (b : Bool) → in_service s l i ≡ b → row_of (numbered s l l.nodes x) i ≡ cond (in_service s l i) (Some (record { 0 = serving s l i })) None
    go i k true e = rw e (row_in s l l.nodes x h f i k e)
    go i k false e = rw e (row_out s l l.nodes x h f i k e)

-- ---- one step of the search through the column

pub found_same : (same : UnknownIndex → UnknownIndex → Bool) (row : Row) (u : UnknownIndex) (i was now : ℕ) (b : Bool) → ((v : UnknownIndex) → same v u ≡ eqb v.0 u.0)
    → b ≡ option_eq same row (Some u) → now ≡ cond {A = ℕ} b i was → now ≡ found_by row u.0 i was
unfolding found_by
found_same same None u i was now b f e g = g ∙ ap (λ (t : Bool). cond {A = ℕ} t i was) e
found_same same (Some v) u i was now b f e g = g ∙ ap (λ (t : Bool). cond {A = ℕ} t i was) (e ∙ f v)

-- ---- rows

abbrev number_of : Row → ℕ
number_of (Some u) = u.0
number_of None = 0

number_most : (s : List ℕ) (l : Layout) (i : ℕ) → number_of (row_at s l i) ≤ i
unfolding row_at
number_most s l i = go (in_service s l i)
  where
    go : (b : Bool) → number_of (cond b (Some (record { 0 = serving s l i })) None) ≤ i
    go true = at_most s l i
    go false = omega arith

pub row_most : (s : List ℕ) (l : Layout) (i : ℕ) (u : UnknownIndex) → row_at s l i ≡ Some u → u.0 ≤ i
row_most s l i u h = let e : number_of (row_at s l i) ≡ u.0 = ap number_of h in omega (arith, number_most s l i, e)

pub row_below : (s : List ℕ) (l : Layout) (i n : ℕ) (row : Row) → row ≡ row_at s l i → i < n → n ≤ 64 → RowBelow 64 row
row_below s l i n row h x f = record { below = λ w k. let e : w.0 ≤ i = row_most s l i w (sym h ∙ k) in omega (arith, e) }

-- ---- the way back from an unknown to its node

module _ (s : List ℕ) (l : Layout) where
  pub node_at_lem : (n i : ℕ) → i < n → in_service s l i ≡ true → node_numbered s l n (serving s l i) ≡ i
  unfolding node_numbered
  node_at_lem zero i h k = absurd (omega arith)
  node_at_lem (suc n) i h k =
      ⊎_elim
      (λ (q : i ≡ n). rw (← q, k, eq-eqb (serving s l i) (serving s l i) refl))
      (λ (q : i < n). earlier q (in_service s l n) refl (node_at_lem n i q k))
      (eq-or-lt_of_le (le_of_suc-le-suc h))
    where
      earlier : i < n → (b : Bool) → in_service s l n ≡ b → node_numbered s l n (serving s l i) ≡ i → cond {A = ℕ} (in_service s l n && eqb (serving s l n) (serving s l i)) n (node_numbered s l n (serving s l i)) ≡ i
      earlier q true e f = rw (e, ne_eqb (serving s l n) (serving s l i) (λ z. omega (arith, rising s l {i = i} {j = n} k q, z)), f)
      earlier q false e f = rw (e, f)

  -- what is known of the node of an unknown
  pub record NodeOf (n u : ℕ) : Type 0 where
    pub below : node_numbered s l n u < n
    pub works : in_service s l (node_numbered s l n u) ≡ true
    pub number : serving s l (node_numbered s l n u) ≡ u

  pub node_of : (n u : ℕ) → u < serving s l n → NodeOf n u
  node_of n u h =
      let w = onto s l n u h in
      let e : node_numbered s l n u ≡ w.0 = ap (node_numbered s l n) (sym w.1.1.1) ∙ node_at_lem n w.0 w.1.0 w.1.1.0 in
      record { below = omega (arith, w.1.0, e); works = ap (in_service s l) e ∙ w.1.1.0; number = ap (serving s l) e ∙ w.1.1.1 }

  -- ---- the search through the column

  pub none_found : (u : ℕ) → 0 ≡ node_numbered s l 0 u
  unfolding node_numbered
  none_found u = refl

  -- node i has the row that the column says
  pub found_next : (i u was now : ℕ) (row : Row) → row ≡ row_at s l i → was ≡ node_numbered s l i u → now ≡ found_by row u i was → now ≡ node_numbered s l (suc i) u
  unfolding node_numbered row_at found_by
  found_next i u was now row r e f = f ∙ ap (λ (w : Row). found_by w u i was) r ∙ go (in_service s l i) ∙ ap (λ (k : ℕ). cond {A = ℕ} (in_service s l i && eqb (serving s l i) u) i k) e
    where
      go : (b : Bool) → found_by (cond b (Some (record { 0 = serving s l i })) None) u i was ≡ cond {A = ℕ} (b && eqb (serving s l i) u) i was
      go true = refl
      go false = refl
