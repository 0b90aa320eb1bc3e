-- Junctions in service that a link in service starts or ends at, and rows without one: bare left of the diagonal. Assumes nothing.
use Prim.Native.Nat.{ℕ, zero, suc, ◌+◌, ◌*◌, ◌≤◌, ◌<◌}
use mathlib.Core.Path.{◌≡◌, refl, sym, ap, ◌∙◌}
use mathlib.Core.Logic.{◌⊎◌, inl, inr, ⊎_elim}
use mathlib.Core.Bool.{Bool, true, false, cond, ◌&&◌, ◌||◌}
use mathlib.Core.List.{List}
use native.Mathlib.Nat.{eq-or-lt_of_le, le_of_suc-le-suc}
use native.Mathlib.Decide.{dec_lt}
use native.Mathlib.Omega.{arith}
use borrow.Author.Tests.{eq-eqb, eqb-true}
use lib.Dec.{eqb, ltb}
use lib.ListN.{length}
use lib.Ieee.{Float}
use Rattle.layout.specs.declared.places.Layout.{Layout}
use Rattle.zeros.proofs.Zeros.{clash}
use Rattle.linear.specs.declared.factorization.UnknownIndex.{UnknownIndex}
use Rattle.records.specs.Records.{link_at}
use Rattle.links.specs.Links.{link_of, link_start, link_end}
use Rattle.nodes.specs.Nodes.{enabled, in_service, serving}
use Rattle.numbering.specs.Numbering.{row_at}
use Rattle.numbering.proofs.Numbers.{at_most, monotone}
use Rattle.rows.specs.Rows.{lower}
use Rattle.repair.specs.Repair.{touches}
use Rattle.state.specs.Network.{Network}
use Rattle.assembly.specs.Assembly.{System, View, assemble_of}
use Rattle.assembly.specs.Unfilled.{OffDiagonal, Apart, Unfilled}
use Rattle.assembly.proofs.Unfilled.{unfilled}
use Rattle.repairs_bound.proofs.Pivots.{Bare}
use Rattle.std.specs.Prelude.{None, Some}

-- ---- definitions

-- link j is in service: both its ends are enabled
unfoldable pub serves : List ℕ → Layout → ℕ → Bool
serves s l j = enabled s l (link_of s l j).start && enabled s l (link_of s l j).end

-- and touches node i
unfoldable pub serves_at : List ℕ → Layout → ℕ → ℕ → Bool
serves_at s l i j = serves s l j && touches s l i j

-- one of the first n links does
unfoldable pub has_link : List ℕ → Layout → ℕ → ℕ → Bool
has_link s l i zero = false
has_link s l i (suc n) = serves_at s l i n || has_link s l i n

-- node i is a junction in service that a link in service touches
unfoldable pub joins : List ℕ → Layout → ℕ → Bool
joins s l i = in_service s l i && has_link s l i l.links

-- ---- what they say

or_true : (a b : Bool) → b ≡ true → (a || b) ≡ true
or_true true b h = refl
or_true false b h = h

module _ (s : List ℕ) (l : Layout) where
  pub start_is : (j : ℕ) → (link_of s l j).start ≡ link_start s l j
  unfolding link_of link_at link_start
  start_is j = refl

  pub end_is : (j : ℕ) → (link_of s l j).end ≡ link_end s l j
  unfolding link_of link_at link_end
  end_is j = refl

  touches_start : (i j : ℕ) → (link_of s l j).start ≡ i → touches s l i j ≡ true
  unfolding touches
  touches_start i j e = rw (eq-eqb (link_start s l j) i (sym (start_is j) ∙ e))

  touches_end : (i j : ℕ) → (link_of s l j).end ≡ i → touches s l i j ≡ true
  unfolding touches
  touches_end i j e = or_true (eqb (link_start s l j) i) (eqb (link_end s l j) i) (eq-eqb (link_end s l j) i (sym (end_is j) ∙ e))

  pub touched : (i j : ℕ) → touches s l i j ≡ true → ((link_of s l j).start ≡ i) ⊎ ((link_of s l j).end ≡ i)
  unfolding touches
  touched i j e = go (eqb (link_start s l j) i) refl e
    where
      go : (b : Bool) → eqb (link_start s l j) i ≡ b → (b || eqb (link_end s l j) i) ≡ true → ((link_of s l j).start ≡ i) ⊎ ((link_of s l j).end ≡ i)
      go true p q = inl (start_is j ∙ eqb-true (link_start s l j) i p)
      go false p q = inr (end_is j ∙ eqb-true (link_end s l j) i q)

  pub untouched : (i j : ℕ) → touches s l i j ≡ false → ((link_of s l j).start ≡ i → ⊥) × ((link_of s l j).end ≡ i → ⊥)
  untouched i j e = (λ p. clash (sym e ∙ touches_start i j p), λ p. clash (sym e ∙ touches_end i j p))

  has_of : (i n j : ℕ) → j < n → serves_at s l i j ≡ true → has_link s l i n ≡ true
  unfolding has_link
  has_of i zero j h e = absurd (omega arith)
  has_of i (suc n) j h e =
      ⊎_elim
      (λ (q : j ≡ n). rw (sym (ap (serves_at s l i) q) ∙ e))
      (λ (q : j < n). or_true (serves_at s l i n) (has_link s l i n) (has_of i n j q e))
      (eq-or-lt_of_le (le_of_suc-le-suc h))

  -- a junction in service that is none has no link in service
  pub none_joins : (i : ℕ) → in_service s l i ≡ true → joins s l i ≡ false → has_link s l i l.links ≡ false
  unfolding joins
  none_joins i w e = rw w at e

  pub joins_has : (i : ℕ) → joins s l i ≡ true → (in_service s l i ≡ true) × (has_link s l i l.links ≡ true)
  unfolding joins
  joins_has i e = go (in_service s l i) refl (has_link s l i l.links) refl e
    where
      go : (a : Bool) → in_service s l i ≡ a → (b : Bool) → has_link s l i l.links ≡ b → (a && b) ≡ true → (in_service s l i ≡ true) × (has_link s l i l.links ≡ true)
      go true p b q h = (p, q ∙ h)
      go false p b q h = clash h

  -- no link in service touches it
  pub not_joined : (i j : ℕ) → in_service s l i ≡ true → joins s l i ≡ false → j < l.links → serves_at s l i j ≡ true → ⊥
  not_joined i j w e h a = clash (sym (none_joins i w e) ∙ has_of i l.links j h a)

  pub row_of : (i : ℕ) (u : UnknownIndex) → row_at s l i ≡ Some u → (in_service s l i ≡ true) × (serving s l i ≡ u.0)
  unfolding row_at
  row_of i u e = go (in_service s l i) refl e
    where
      go : (b : Bool) → in_service s l i ≡ b → cond b (Some (record { 0 = serving s l i })) None ≡ Some u → (in_service s l i ≡ true) × (serving s l i ≡ u.0)
      go true p q = let same : serving s l i ≡ u.0 = cc in (p, same)
      go false p q = absurd (let z : ◌≡◌ {A = ℕ} 0 1 = cc in omega arith)

-- ---- places in the matrix

pub places : (i j k m : ℕ) → j < 64 → m < 64 → 64 * i + j ≡ 64 * k + m → (i ≡ k) × (j ≡ m)
places i j k m hj hm e = go (dec_lt i k) (dec_lt k i)
  where
    go : Dec (i < k) → Dec (k < i) → (i ≡ k) × (j ≡ m)
    go (yes x) y = absurd (let z : ⊥ = omega arith in z)
    go (no x) (yes y) = absurd (let z : ⊥ = omega arith in z)
    go (no x) (no y) = let same : i ≡ k = omega (arith, x, y) in (same, omega arith)

-- the place of two unknowns in the lower triangle is that of a row and a column
pub lower_is : (i j r c : ℕ) → i < 64 → j < 64 → r < 64 → lower i j ≡ 64 * c + r → ((i ≡ c) × (j ≡ r)) ⊎ ((j ≡ c) × (i ≡ r))
unfolding lower
lower_is i j r c hi hj hr e = go (ltb i j) e
  where
    go : (b : Bool) → cond {A = ℕ} b (64 * i + j) (64 * j + i) ≡ 64 * c + r → ((i ≡ c) × (j ≡ r)) ⊎ ((j ≡ c) × (i ≡ r))
    go true f = inl (places i j c r hj hr f)
    go false f = inr (places j i c r hi hr f)

-- ---- the rows before a junction

module _ (s : List ℕ) (l : Layout) (net : Network l s) (i : ℕ) (below : i < l.nodes) (lone : (h : ℕ) → h < i → joins s l h ≡ false) where
  small : serving s l i < 64
  small = omega (arith, at_most s l i, net.nodes)

  row_small : (h : ℕ) → h < l.nodes → (u : UnknownIndex) → row_at s l h ≡ Some u → u.0 < 64
  row_small h b u e = omega (arith, (row_of s l h u e).1, at_most s l h, net.nodes)

  module _ (r j : ℕ) (lo : j < r) (hi : r ≤ serving s l i) where
    off_diagonal : (h : ℕ) → h < l.nodes → OffDiagonal (row_at s l h) (64 * j + r)
    off_diagonal h b =
        record {
          off = λ u e p.
              let w = places j r u.0 u.0 (omega (arith, small)) (row_small h b u e) p in
              omega (arith, w.0, w.1, lo);
        }

    -- a node with the lower row would be a junction that the link joins, before node i
    no-joint : (k h : ℕ) → k < l.links → serves s l k ≡ true → touches s l h k ≡ true → (u : UnknownIndex) → row_at s l h ≡ Some u → u.0 ≡ j → ⊥
    unfolding serves_at
    no-joint k h b on at u e same =
        let w = row_of s l h u e in
        let before : h < i = go (dec_lt h i) (w.1 ∙ same) in
        not_joined s l h k w.0 (lone h before) b (rw (on, at))
      where
        go : Dec (h < i) → serving s l h ≡ j → h < i
        go (yes x) q = x
        go (no x) q = absurd (let z : ⊥ = omega (arith, monotone s l {i = i} {j = h} (omega (arith, x)), q) in z)

    link_apart : (k : ℕ) → k < l.links → serves s l k ≡ true → Apart (row_at s l (link_of s l k).start) (row_at s l (link_of s l k).end) (64 * j + r)
    link_apart k b on =
        let start_in : (link_of s l k).start < l.nodes = omega (arith, net.ends.start k b, start_is s l k) in
        let end_in : (link_of s l k).end < l.nodes = omega (arith, net.ends.end k b, end_is s l k) in
        record {
          start = off_diagonal (link_of s l k).start start_in;
          end = off_diagonal (link_of s l k).end end_in;
          between = λ u v e f p.
              ⊎_elim
              (λ w. no-joint k (link_of s l k).start b on (touches_start s l (link_of s l k).start k refl) u e w.0)
              (λ w. no-joint k (link_of s l k).end b on (touches_end s l (link_of s l k).end k refl) v f w.0)
              (lower_is u.0 v.0 r j (row_small (link_of s l k).start start_in u e) (row_small (link_of s l k).end end_in v f) (omega (arith, small)) (sym p));
        }

    entry-unfilled : (demands : List Float) (marks : List Bool) → Unfilled s l demands marks (64 * j + r)
    unfolding serves
    entry-unfilled demands marks = record { links = link_apart; nodes = λ h b e. off_diagonal h b; giving = λ p h b e. off_diagonal h b }

  -- up to the row of node i they hold +0.0 left of the diagonal
  pub bare_rows : (v : View) (demands drawn : List Float) (marks : List Bool) (t : System) → length t.matrix ≡ 4096 → Bare (serving s l i) (assemble_of s l v demands drawn marks t).matrix
  bare_rows v demands drawn marks t long r j lo hi = unfilled s l v demands drawn marks t (64 * j + r) long (omega (arith, small)) (entry-unfilled r j lo hi demands marks)
