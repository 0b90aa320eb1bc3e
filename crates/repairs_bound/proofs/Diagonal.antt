-- The diagonal entry of a junction in service: above zero where each of its links lifts it, or where it is grounded. Assumes nothing.
use Rattle.std.specs.Prelude.{None}
use Prim.Native.Nat.{ℕ, zero, suc, ◌+◌, ◌*◌, ◌≤◌, ◌<◌}
use mathlib.Core.Path.{◌≡◌, refl, sym, ap, ◌∙◌, subst}
use mathlib.Core.Logic.{⊎_elim}
use mathlib.Core.Bool.{Bool, true, false, cond, ◌&&◌, ◌||◌}
use mathlib.Core.List.{List}
use native.Mathlib.Nat.{eq-or-lt_of_le, le_of_suc-le-suc}
use native.Mathlib.Decide.{ℕ_discrete}
use native.Mathlib.Omega.{arith}
use lib.Count.{count_trailing_zeros}
use lib.ListN.{length, get_or}
use lib.Ieee.{Float, nan, binary64, of_bits, of_fields, odd, add, lt}
use lib.Ieee.Bits.{of_bits-fits}
use Rattle.layout.specs.declared.places.Layout.{Layout}
use Rattle.zeros.proofs.Zeros.{clash}
use Rattle.links.specs.Links.{link_of, link_start, link_end}
use Rattle.records.specs.Records.{pressures_of}
use Rattle.records.specs.declared.records.Pressures.{Pressures}
use Rattle.constants.specs.Arithmetic.{over}
use Rattle.constants.specs.Constants as constant
use Rattle.coefficient.specs.declared.Coefficients.{Coefficients}
use Rattle.columns.specs.Columns.{cleared}
use Rattle.columns.proofs.Laws.{cleared_at, cleared_long}
use Rattle.nodes.specs.Nodes.{enabled, in_service, serving}
use Rattle.numbering.specs.Numbering.{row_at, Row}
use Rattle.numbering.proofs.Numbers.{at_most, one_to_one}
use Rattle.rows.specs.Rows.{on_diagonal}
use Rattle.rows.proofs.Lengths.{on_diagonal_long}
use Rattle.scatter.specs.Scatter.{link_matrix}
use Rattle.scatter.proofs.Lengths.{either_long}
use Rattle.repair.specs.Repair.{touches}
use Rattle.state.specs.Network.{Network}
use Rattle.drawing.specs.Drawing.{range_of, bend_of}
use Rattle.drawing.specs.declared.Bend.{Bend}
use Rattle.bends.specs.Bends.{bends, bend_diagonal, node_diagonal, diagonal_bends, bent_matrix}
use Rattle.bends.proofs.Laws.{bent_matrix_long}
use Rattle.assembly.specs.Assembly.{System, system, View, coefficients_at, link_placed, link_added, with_links, ground_of, grounded_of, assemble_of}
use Rattle.assembly.proofs.Kept.{links_long, grounded_long}
use Rattle.repairs_bound.proofs.Floats.{HasSign, add_unsigned, Lifted, lifted_sign, stays_lifted, lifts, test_above, divisor_sign}
use Rattle.repairs_bound.proofs.Joined.{serves, serves_at, has_link, start_is, end_is, touched, untouched, row_of}
use Rattle.repairs_bound.proofs.Places.{Off, own, diagonal_off, diagonal_own, link_off, link_start_lem, link_end_lem}

-- ---- one link

-- what a link adds lifts a diagonal entry, and no node's addition stands beside it
pub record Lifting (c : Coefficients) : Type 0 where
  pub conductance : Lifted c.conductance
  pub no_start : c.upstream ≡ None
  pub no_end : c.downstream ≡ None

-- a diagonal entry: +0.0 as long as no link in service is there, then above zero
abbrev Entry : Bool → Float → Type 0
Entry false x = x ≡ of_bits binary64 0
Entry true x = Lifted x

zero_sign : HasSign (of_bits binary64 0) false
unfolding of_bits of_fields odd
zero_sign = refl

entry_sign : (b : Bool) (x : Float) → Entry b x → HasSign x false
entry_sign false x e = subst (λ (y : Float). HasSign y false) (sym e) zero_sign
entry_sign true x e = lifted_sign x e

small_lifted : Lifted constant.small_value
unfolding lt of_bits of_fields odd count_trailing_zeros
small_lifted = record { held = of_bits-fits binary64 0x3eb0_c6f7_a0b5_ed8d; risen = test_above constant.small_value refl }

one_sign : HasSign constant.one false
unfolding of_bits of_fields odd count_trailing_zeros
one_sign = refl

bend_long : (b : Bend) (row : Row) (m : List Float) → length (bend_diagonal b row m) ≡ length m
unfolding bend_diagonal
bend_long b row m = either_long (lt constant.zero (over constant.one b.conductance)) (on_diagonal row b.conductance m) m m (on_diagonal_long row b.conductance m) refl

bends_long : (s : List ℕ) (l : Layout) (r : Pressures) (asked drawn : List Float) (n : ℕ) (m : List Float) → length (diagonal_bends s l r asked drawn n m) ≡ length m
unfolding diagonal_bends node_diagonal
bends_long s l r asked drawn zero m = refl
bends_long s l r asked drawn (suc n) m =
    let old = diagonal_bends s l r asked drawn n m in
    let bend = bend_of (get_or drawn n nan) (get_or asked n nan) (range_of r) in
    either_long (bends s l asked n) (bend_diagonal bend (row_at s l n) old) old old (bend_long bend (row_at s l n) old) refl ∙ bends_long s l r asked drawn n m

-- ---- all links, the bends and the grounded marks, at node i

module _ (s : List ℕ) (l : Layout) (net : Network l s) (apart : (j : ℕ) → j < l.links → link_start s l j ≡ link_end s l j → ⊥) (i : ℕ) (below : i < l.nodes) (works : in_service s l i ≡ true) where
  small : serving s l i < 64
  small = omega (arith, at_most s l i, net.nodes)

  row_own : row_at s l i ≡ own (serving s l i)
  unfolding row_at
  row_own = rw works

  row_off : (h : ℕ) → h < l.nodes → (h ≡ i → ⊥) → Off (serving s l i) (row_at s l h)
  row_off h b ne u e =
      let w = row_of s l h u e in
      (omega (arith, w.1, at_most s l h, net.nodes), λ same. ne (one_to_one s l {i = h} {j = i} w.0 works (w.1 ∙ same)))

  place : ℕ
  place = 64 * serving s l i + serving s l i

  start_in : (j : ℕ) → j < l.links → (link_of s l j).start < l.nodes
  start_in j h = omega (arith, net.ends.start j h, start_is s l j)

  end_in : (j : ℕ) → j < l.links → (link_of s l j).end < l.nodes
  end_in j h = omega (arith, net.ends.end j h, end_is s l j)

  ends_apart : (j : ℕ) → j < l.links → (link_of s l j).start ≡ (link_of s l j).end → ⊥
  ends_apart j h e = apart j h (sym (start_is s l j) ∙ e ∙ end_is s l j)

  -- ---- the links

  module _ (j : ℕ) (h : j < l.links) (c : Coefficients) (m : List Float) (long : length m ≡ 4096) where
    added : List Float
    added = link_matrix (row_at s l (link_of s l j).start) (row_at s l (link_of s l j).end) c m

    -- a link that does not touch node i, and one that does
    passes : touches s l i j ≡ false → get_or added (place) nan ≡ get_or m (place) nan
    unfolding place added
    passes e =
        let n = untouched s l i j e in
        link_off (serving s l i) small (row_at s l (link_of s l j).start) (row_at s l (link_of s l j).end) c m (row_off (link_of s l j).start (start_in j h) n.0) (row_off (link_of s l j).end (end_in j h) n.1)

    adds : touches s l i j ≡ true → Lifting c → get_or added place nan ≡ add binary64 (get_or m place nan) c.conductance
    unfolding place added
    adds e f =
        ⊎_elim
        (λ (q : (link_of s l j).start ≡ i).
        ap (λ (row : Row). get_or (link_matrix row (row_at s l (link_of s l j).end) c m) place nan) (ap (row_at s l) q ∙ row_own)
        ∙ link_start_lem (serving s l i) small (row_at s l (link_of s l j).end) c m long (row_off (link_of s l j).end (end_in j h) (λ z. ends_apart j h (q ∙ sym z))) f.no_start)
        (λ (q : (link_of s l j).end ≡ i).
        ap (λ (row : Row). get_or (link_matrix (row_at s l (link_of s l j).start) row c m) place nan) (ap (row_at s l) q ∙ row_own)
        ∙ link_end_lem (serving s l i) small (row_at s l (link_of s l j).start) c m long (row_off (link_of s l j).start (start_in j h) (λ z. ends_apart j h (z ∙ sym q))) f.no_end)
        (touched s l i j e)

  module _ (v : View) (each : (j : ℕ) → j < l.links → serves_at s l i j ≡ true → Lifting (coefficients_at s l v.flows v.statuses v.excess (link_of s l j) j)) where
    one_link : (j : ℕ) → j < l.links → (a : System) → length a.matrix ≡ 4096 → (b : Bool) → Entry b (get_or a.matrix place nan)
        → Entry (serves_at s l i j || b) (get_or (link_added s l v (link_of s l j) j a).matrix place nan)
    unfolding serves_at serves link_added link_placed added
    one_link j h a long b was =
        go (enabled s l (link_of s l j).start && enabled s l (link_of s l j).end) (touches s l i j) refl (each j h)
      where
        c : Coefficients
        c = coefficients_at s l v.flows v.statuses v.excess (link_of s l j) j

        go : (on at : Bool) → touches s l i j ≡ at → ((on && at) ≡ true → Lifting c) → Entry ((on && at) || b) (get_or (cond on (link_placed s l v (link_of s l j) c j a) a).matrix place nan)
        go false at q f = was
        go true true q f =
            subst Lifted (sym (adds j h c a.matrix long q (f refl))) (lifts (get_or a.matrix place nan) c.conductance (entry_sign b (get_or a.matrix place nan) was) (f refl).conductance)
        go true false q f = subst (Entry b) (sym (passes j h c a.matrix long q)) was

    after-links : (k : ℕ) → k ≤ l.links → (a : System) → length a.matrix ≡ 4096 → get_or a.matrix place nan ≡ of_bits binary64 0 → Entry (has_link s l i k) (get_or (with_links s l v k a).matrix place nan)
    unfolding with_links has_link
    after-links zero h a long e = e
    after-links (suc k) h a long e =
        one_link k h (with_links s l v k a) ((links_long s l v k a).matrix ∙ long) (has_link s l i k) (after-links k (omega arith) a long e)

  -- ---- the bends

  module _ (P : Float → Type 0) (keeps : (x y : Float) → P x → HasSign y false → P (add binary64 x y)) where
    on-diagonal-keeps : (h : ℕ) → h < l.nodes → (y : Float) → HasSign y false → (m : List Float) → length m ≡ 4096 → P (get_or m place nan) → P (get_or (on_diagonal (row_at s l h) y m) place nan)
    unfolding place
    on-diagonal-keeps h b y q m long was = go (ℕ_discrete h i)
      where
        go : Dec (h ≡ i) → P (get_or (on_diagonal (row_at s l h) y m) place nan)
        go (yes e) =
            subst P
            (sym (ap (λ (row : Row). get_or (on_diagonal row y m) place nan) (ap (row_at s l) e ∙ row_own) ∙ diagonal_own (serving s l i) small y m long))
            (keeps (get_or m place nan) y was q)
        go (no e) = subst P (sym (diagonal_off (serving s l i) small (row_at s l h) y m (row_off h b e))) was

    bend-keeps : (h : ℕ) → h < l.nodes → (b : Bend) (m : List Float) → length m ≡ 4096 → P (get_or m place nan) → P (get_or (bend_diagonal b (row_at s l h) m) place nan)
    unfolding bend_diagonal
    bend-keeps h k b m long was = go (lt constant.zero (over constant.one b.conductance)) refl
      where
        go : (t : Bool) → lt constant.zero (over constant.one b.conductance) ≡ t → P (get_or (cond t (on_diagonal (row_at s l h) b.conductance m) m) place nan)
        go true e = on-diagonal-keeps h k b.conductance (divisor_sign constant.one b.conductance one_sign e) m long was
        go false e = was

    bends-keep : (r : Pressures) (asked drawn m : List Float) (n : ℕ) → n ≤ l.nodes → length m ≡ 4096 → P (get_or m place nan) → P (get_or (diagonal_bends s l r asked drawn n m) place nan)
    unfolding diagonal_bends node_diagonal
    bends-keep r asked drawn m zero h long was = was
    bends-keep r asked drawn m (suc n) h long was = go (bends s l asked n) (bends-keep r asked drawn m n (omega arith) long was)
      where
        old : List Float
        old = diagonal_bends s l r asked drawn n m

        go : (b : Bool) → P (get_or old place nan) → P (get_or (cond b (bend_diagonal (bend_of (get_or drawn n nan) (get_or asked n nan) (range_of r)) (row_at s l n) old) old) place nan)
        go true f = bend-keeps n h (bend_of (get_or drawn n nan) (get_or asked n nan) (range_of r)) old (bends_long s l r asked drawn n m ∙ long) f
        go false f = f

    bent-keeps : (asked drawn m : List Float) → length m ≡ 4096 → P (get_or m place nan) → P (get_or (bent_matrix s l asked drawn m) place nan)
    unfolding bent_matrix
    bent-keeps asked drawn m long was = go l.pressures
      where
        go : (b : Bool) → P (get_or (cond b (diagonal_bends s l (pressures_of s) asked drawn l.nodes m) m) place nan)
        go true = bends-keep (pressures_of s) asked drawn m l.nodes (omega arith) long was
        go false = was

    -- ---- the grounded marks

    grounded-keeps : (marks : List Bool) (m : List Float) (n : ℕ) → n ≤ l.nodes → length m ≡ 4096 → P (get_or m place nan) → P (get_or (grounded_of s l marks n m) place nan)
    unfolding grounded_of ground_of
    grounded-keeps marks m zero h long was = was
    grounded-keeps marks m (suc n) h long was = go (get_or marks n false) (grounded-keeps marks m n (omega arith) long was)
      where
        old : List Float
        old = grounded_of s l marks n m

        go : (b : Bool) → P (get_or old place nan) → P (get_or (cond b (on_diagonal (row_at s l n) constant.small_value old) old) place nan)
        go true f = on-diagonal-keeps n h constant.small_value (lifted_sign constant.small_value small_lifted) old (grounded_long s l marks n m ∙ long) f
        go false f = f

  -- a node that is grounded is lifted from what is not below zero
  grounded_lifts : (marks : List Bool) (m : List Float) → get_or marks i false ≡ true → length m ≡ 4096 → HasSign (get_or m place nan) false → (n : ℕ) → n ≤ l.nodes → i < n → Lifted (get_or (grounded_of s l marks n m) place nan)
  unfolding grounded_of ground_of place
  grounded_lifts marks m e long was zero h b = absurd (omega arith)
  grounded_lifts marks m e long was (suc n) h b =
      ⊎_elim (λ (q : i ≡ n). here q (get_or marks n false) (sym (ap (λ (k : ℕ). get_or marks k false) q) ∙ e)) (λ (q : i < n). there (get_or marks n false) (grounded_lifts marks m e long was n (omega arith) q)) (eq-or-lt_of_le (le_of_suc-le-suc b))
    where
      old : List Float
      old = grounded_of s l marks n m

      wide : length old ≡ 4096
      wide = grounded_long s l marks n m ∙ long

      here : i ≡ n → (t : Bool) → t ≡ true → Lifted (get_or (cond t (on_diagonal (row_at s l n) constant.small_value old) old) place nan)
      here q false f = clash f
      here q true f =
          subst Lifted
          (sym (ap (λ (row : Row). get_or (on_diagonal row constant.small_value old) place nan) (ap (row_at s l) (sym q) ∙ row_own) ∙ diagonal_own (serving s l i) small constant.small_value old wide))
          (lifts (get_or old place nan) constant.small_value (grounded-keeps (λ (x : Float). HasSign x false) add_unsigned marks m n (omega arith) long was) small_lifted)

      there : (t : Bool) → Lifted (get_or old place nan) → Lifted (get_or (cond t (on_diagonal (row_at s l n) constant.small_value old) old) place nan)
      there true f = on-diagonal-keeps Lifted stays_lifted n h constant.small_value (lifted_sign constant.small_value small_lifted) old wide f
      there false f = f

  -- ---- the whole

  module _ (v : View) (each : (j : ℕ) → j < l.links → serves_at s l i j ≡ true → Lifting (coefficients_at s l v.flows v.statuses v.excess (link_of s l j) j))
      (asked drawn : List Float) (marks : List Bool) (t : System) (long : length t.matrix ≡ 4096) where
    cleared-system : System
    cleared-system = system (cleared 4096 t.matrix) (cleared 64 t.rhs) t.g t.y

    with-links : List Float
    with-links = (with_links s l v l.links cleared-system).matrix

    with-links-long : length with-links ≡ 4096
    unfolding with-links cleared-system
    with-links-long = (links_long s l v l.links cleared-system).matrix ∙ cleared_long 4096 t.matrix ∙ long

    linked : Entry (has_link s l i l.links) (get_or with-links place nan)
    unfolding with-links cleared-system place
    linked = after-links v each l.links (omega arith) cleared-system (cleared_long 4096 t.matrix ∙ long) (cleared_at 4096 t.matrix (omega (arith, long)) place (omega (arith, small)))

    -- a junction that a link in service touches has a diagonal entry above zero,
    pub linked-lifted : has_link s l i l.links ≡ true → Lifted (get_or (assemble_of s l v asked drawn marks t).matrix (64 * serving s l i + serving s l i) nan)
    unfolding assemble_of with-links cleared-system place
    linked-lifted e =
        grounded-keeps Lifted stays_lifted marks (bent_matrix s l asked drawn with-links) l.nodes (omega arith) (bent_matrix_long s l asked drawn with-links ∙ with-links-long)
        (bent-keeps Lifted stays_lifted asked drawn with-links with-links-long (subst (λ (b : Bool). Entry b (get_or with-links place nan)) e linked))

    -- and so has one that is grounded
    pub grounded-lifted : get_or marks i false ≡ true → Lifted (get_or (assemble_of s l v asked drawn marks t).matrix (64 * serving s l i + serving s l i) nan)
    unfolding assemble_of with-links cleared-system place
    grounded-lifted e =
        grounded_lifts marks (bent_matrix s l asked drawn with-links) e (bent_matrix_long s l asked drawn with-links ∙ with-links-long)
        (bent-keeps (λ (x : Float). HasSign x false) add_unsigned asked drawn with-links with-links-long (entry_sign (has_link s l i l.links) (get_or with-links place nan) linked))
        l.nodes (omega arith) below
