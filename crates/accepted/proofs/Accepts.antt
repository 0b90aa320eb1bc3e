-- A sheet is read exactly when it is an accepted one, and each number has its one cause; what an accepted sheet's fields are. Assumes nothing.
use mathlib.Core.Path.{◌≡◌, refl, sym, ap, ◌∙◌, subst}
use mathlib.Core.Bool.{Bool, true, false, cond, ◌&&◌, ◌||◌}
use mathlib.Core.Logic.{⊎_elim}
use mathlib.Core.List.{List}
use Prim.Native.Nat.{ℕ, zero, suc, ◌+◌, ◌*◌, ◌≤◌, ◌<◌}
use native.Mathlib.Nat.{eq-or-lt_of_le, le_of_suc-le-suc, mul-zero, mul-suc}
use native.Mathlib.Omega.{arith}
use lib.Dec.{T, eqb, leb}
use lib.ListN.{length}
use lib.Ieee.{Float, nan, inf, fin, le, lt, eq, of_bits, of_fields, odd}
use lib.Ieee.Scale.{finite}
use lib.Count.{count_trailing_zeros}
use borrow.Author.Tests.{eqb-true, leb-true}
use Rattle.float.specs.Sign.{abs_of}
use Rattle.patterns.specs.Bytes.{from_bytes}
use Rattle.layout.specs.Places.{Laid, node_place, link_place}
use Rattle.links.specs.Links.{EndsIn}
use Rattle.nodes.specs.Nodes.{in_service, serving}
use Rattle.sheet.specs.Scan.{readable, has_options, has_pressures, layout_of, end_of}
use Rattle.records.specs.Records.{byte_at, pair_at, pressures_of}
use Rattle.fields.specs.Fields.{null, base_bounds, within, all_within, options_good, pressures_good, node_good, link_codes, link_numbers, link_good}
use Rattle.ends.specs.Ends.{ends_good}
use Rattle.sheet.specs.Read.{first_bad, bad_node, bad_link, bad_field, bad_ends, unless, with_unknowns, checked, after_scan, read_with}
use Rattle.accepted.specs.Accepted.{Accepted, none, cause_of, number_in}
use Rattle.fields.specs.declared.fields.Bounds.{Bounds}
use Rattle.refusals.specs.Refusals.{number_of}
use Rattle.layout.specs.declared.places.Layout.{Layout}
use Rattle.refusals.specs.declared.refusals.Refusal.TheVariants.{Unreadable, NodeCount, LinkCount, Field, Ends}
use Rattle.sheet.proofs.Laws.{and_left, and_right}
use Rattle.sheet.proofs.Readings.{fine_some, fine_where, no_field, field-link, checked_good, right_counts, whole, each_node, each_link, each_ends, ends_in, laid_of, options_fit}
use Rattle.std.specs.Prelude.{Err, None, Ok, Option, Some}

-- ---- each number has its one cause

module _ (b : Bounds) (s : List ℕ) where
  checked_cause : (l : Layout) → number_in (checked b l s) ≡ cond {A = ℕ} (none (bad_field b l s)) (cond {A = ℕ} (none (bad_ends l s)) 0 4) 3
  unfolding checked number_of
  checked_cause l = go (bad_field b l s) (bad_ends l s)
    where
      go : (f e : Option ℕ) → number_in (unless f Field (unless e Ends (Ok (with_unknowns s l)))) ≡ cond {A = ℕ} (none f) (cond {A = ℕ} (none e) 0 4) 3
      go (Some p) e = refl
      go None (Some p) = refl
      go None None = refl

  scan_cause : (l : Layout) → number_in (after_scan b l s) ≡ cond {A = ℕ} (leb 1 l.nodes && leb l.nodes b.nodes && leb l.links b.links) (number_in (checked b l s)) 2
  unfolding after_scan number_of
  scan_cause l = go (leb 1 l.nodes && leb l.nodes b.nodes) (leb l.links b.links)
    where
      go : (f e : Bool) → number_in (cond f (cond e (checked b l s) (Err LinkCount)) (Err NodeCount)) ≡ cond {A = ℕ} (f && e) (number_in (checked b l s)) 2
      go true true = refl
      go true false = refl
      go false e = refl

  pub cause : number_in (read_with b s) ≡ cause_of b s
  unfolding read_with cause_of number_of
  cause =
      let l : Layout = layout_of s in
      go (has_options s) (eqb (end_of s) (length s))
      ∙ ap (λ (m : ℕ). cond {A = ℕ} (has_options s && eqb (end_of s) (length s)) m 1)
      (scan_cause l ∙ ap (λ (m : ℕ). cond {A = ℕ} (leb 1 l.nodes && leb l.nodes b.nodes && leb l.links b.links) m 2) (checked_cause l))
    where
      go : (f e : Bool) → number_in (cond f (cond e (after_scan b (layout_of s) s) (Err (Unreadable (end_of s)))) (Err (Unreadable 0))) ≡ cond {A = ℕ} (f && e) (number_in (after_scan b (layout_of s) s)) 1
      go true true = refl
      go true false = refl
      go false e = refl

-- ---- a sheet is read exactly when it is accepted

all_pass : (good : ℕ → Bool) (size k at : ℕ) → ((i : ℕ) → i < k → good (at + size * i) ≡ true) → first_bad good size k at ≡ None
unfolding first_bad
all_pass good size zero at h = refl
all_pass good size (suc k) at h =
    let p : at + size * 0 ≡ at = omega (arith, mul-zero size) in
    rw (subst (λ (m : ℕ). good m ≡ true) p (h 0 (omega arith))) (all_pass good size k (at + size) (λ i l. let q : at + size * suc i ≡ at + size + size * i = omega (arith, mul-suc size i) in subst (λ (m : ℕ). good m ≡ true) q (h (suc i) (omega arith))))

module _ (b : Bounds) (s : List ℕ) (l : Layout) where
  -- none of the three searches finds a fault
  no_bad_node : ((i : ℕ) → i < l.nodes → node_good b s (node_place l i) ≡ true) → bad_node b l s ≡ None
  unfolding bad_node
  no_bad_node h = all_pass (node_good b s) 45 l.nodes l.node0 h

  no_bad_link : ((j : ℕ) → j < l.links → link_good b l.nodes s (link_place l j) ≡ true) → bad_link b l s ≡ None
  unfolding bad_link link_place
  no_bad_link h = all_pass (link_good b l.nodes s) l.stride l.links l.link0 h

  no_bad_ends : ((j : ℕ) → j < l.links → ends_good l s (link_place l j) ≡ true) → bad_ends l s ≡ None
  unfolding bad_ends link_place
  no_bad_ends h = all_pass (ends_good l s) l.stride l.links l.link0 h

-- counting the unknowns moves nothing else of a layout
module _ (s : List ℕ) (l : Layout) where
  place_same : (j : ℕ) → link_place (with_unknowns s l) j ≡ link_place l j
  unfolding with_unknowns link_place
  place_same j = refl

  ends_same : (at : ℕ) → ends_good (with_unknowns s l) s at ≡ ends_good l s at
  unfolding with_unknowns ends_good in_service
  ends_same at = refl

  serving_same : (i : ℕ) → serving s (with_unknowns s l) i ≡ serving s l i
  unfolding with_unknowns serving in_service
  serving_same zero = refl
  serving_same (suc i) = rw (serving_same i)

  pub unknowns_same : (with_unknowns s l).unknowns ≡ serving s (with_unknowns s l) (with_unknowns s l).nodes
  unfolding with_unknowns
  unknowns_same = sym (serving_same l.nodes)

module _ (b : Bounds) (s : List ℕ) where
  accepted_here : Accepted b s (with_unknowns s (layout_of s)) → read_with b s ≡ Ok (with_unknowns s (layout_of s))
  unfolding end_of with_unknowns link_place
  accepted_here a =
      let l : Layout = layout_of s in
      whole b s a.first a.whole
      ∙ right_counts b l s a.some a.few_nodes a.few_links
      ∙ checked_good b l s (field-link b l s a.options (fine_where b l s a.pressures) (no_bad_node b s l a.each_node) ∙ no_bad_link b s l a.each_link) (no_bad_ends b s l (λ j h. sym (ends_same s l (link_place l j)) ∙ a.each_ends j h))

  pub accepted : (l : Layout) → Accepted b s l → read_with b s ≡ Ok l
  accepted l a = subst (λ (k : Layout). Accepted b s k → read_with b s ≡ Ok k) (sym a.laid) accepted_here a

-- ---- and back: what a reading of Good says of each search

pub good_checked : (b : Bounds) (l k : Layout) (s : List ℕ) → checked b l s ≡ Ok k → (bad_field b l s ≡ None) × (bad_ends l s ≡ None) × (with_unknowns s l ≡ k)
unfolding checked
good_checked b l k s h = go (bad_field b l s) refl (bad_ends l s) refl h
  where
    go : (f : Option ℕ) → bad_field b l s ≡ f → (e : Option ℕ) → bad_ends l s ≡ e → unless f Field (unless e Ends (Ok (with_unknowns s l))) ≡ Ok k → (bad_field b l s ≡ None) × (bad_ends l s ≡ None) × (with_unknowns s l ≡ k)
    go (Some p) pf e pe q = absurd (let z : ◌≡◌ {A = ℕ} 0 1 = cc in omega arith)
    go None pf (Some p) pe q = absurd (let z : ◌≡◌ {A = ℕ} 0 1 = cc in omega arith)
    go None pf None pe q = let same : with_unknowns s l ≡ k = cc in (pf, pe, same)

pub good_counts : (b : Bounds) (l k : Layout) (s : List ℕ) → after_scan b l s ≡ Ok k → (1 ≤ l.nodes) × (l.nodes ≤ b.nodes) × (l.links ≤ b.links) × (checked b l s ≡ Ok k)
unfolding after_scan
good_counts b l k s h = go (leb 1 l.nodes) refl (leb l.nodes b.nodes) refl (leb l.links b.links) refl h
  where
    go : (x : Bool) → leb 1 l.nodes ≡ x → (y : Bool) → leb l.nodes b.nodes ≡ y → (z : Bool) → leb l.links b.links ≡ z → cond (x && y) (cond z (checked b l s) (Err LinkCount)) (Err NodeCount) ≡ Ok k → (1 ≤ l.nodes) × (l.nodes ≤ b.nodes) × (l.links ≤ b.links) × (checked b l s ≡ Ok k)
    go false px y py z pz q = absurd (let w : ◌≡◌ {A = ℕ} 0 1 = cc in omega arith)
    go true px false py z pz q = absurd (let w : ◌≡◌ {A = ℕ} 0 1 = cc in omega arith)
    go true px true py false pz q = absurd (let w : ◌≡◌ {A = ℕ} 0 1 = cc in omega arith)
    go true px true py true pz q = (leb-true 1 l.nodes px, leb-true l.nodes b.nodes py, leb-true l.links b.links pz, q)

pub good_laid : (b : Bounds) (s : List ℕ) (k : Layout) → read_with b s ≡ Ok k → (has_options s ≡ true) × (end_of s ≡ length s) × (after_scan b (layout_of s) s ≡ Ok k)
unfolding read_with
good_laid b s k h = go (has_options s) refl (eqb (end_of s) (length s)) refl h
  where
    go : (x : Bool) → has_options s ≡ x → (y : Bool) → eqb (end_of s) (length s) ≡ y → cond x (cond y (after_scan b (layout_of s) s) (Err (Unreadable (end_of s)))) (Err (Unreadable 0)) ≡ Ok k → (has_options s ≡ true) × (end_of s ≡ length s) × (after_scan b (layout_of s) s ≡ Ok k)
    go false px y py q = absurd (let w : ◌≡◌ {A = ℕ} 0 1 = cc in omega arith)
    go true px false py q = absurd (let w : ◌≡◌ {A = ℕ} 0 1 = cc in omega arith)
    go true px true py q = (px, eqb-true (end_of s) (length s) py, q)

module _ (b : Bounds) (s : List ℕ) where
  built : has_options s ≡ true → end_of s ≡ length s → (1 ≤ (layout_of s).nodes) × ((layout_of s).nodes ≤ b.nodes) × ((layout_of s).links ≤ b.links) → bad_field b (layout_of s) s ≡ None → bad_ends (layout_of s) s ≡ None
      → Accepted b s (with_unknowns s (layout_of s))
  unfolding end_of with_unknowns link_place
  built first end counts field ends =
      let l : Layout = layout_of s in
      let f = no_field b l s field in
      record {
        first = first;
        laid = refl;
        whole = end;
        some = counts.0;
        few_nodes = counts.1;
        few_links = counts.2;
        options = f.0;
        pressures = λ h. fine_some b l s h ∙ f.1;
        each_node = each_node b l s f.2;
        each_link = each_link b l s f.3;
        each_ends = λ j h. ends_same s l (link_place l j) ∙ each_ends b l s ends j h;
      }

  pub accepts : (l : Layout) → read_with b s ≡ Ok l → Accepted b s l
  accepts l h =
      let r = good_laid b s l h in
      let c = good_counts b (layout_of s) l s r.2 in
      let d = good_checked b (layout_of s) l s c.3 in
      subst (Accepted b s) d.2 (built r.0 r.1 (c.0, c.1, c.2) d.0 d.1)

-- ---- what the tests say of the floats

-- each of k floats that are within is
pub each_within : (b : Bounds) (k : ℕ) (s : List ℕ) (at : ℕ) → all_within b k s at ≡ true → (i : ℕ) → i < k → within b (from_bytes s (at + 8 * i)) ≡ true
unfolding all_within
each_within b zero s at h i l = absurd (omega arith)
each_within b (suc k) s at h i l =
    ⊎_elim
    (λ (e : i ≡ k). subst (λ (m : ℕ). within b (from_bytes s (at + 8 * m)) ≡ true) (sym e) (and_right (all_within b k s at) (within b (from_bytes s (at + 8 * k))) h))
    (λ (m : i < k). each_within b k s at (and_left (all_within b k s at) (within b (from_bytes s (at + 8 * k))) h) i m)
    (eq-or-lt_of_le (le_of_suc-le-suc l))

-- and is finite, where the bound is
pub within_finite : (b : Bounds) (x : Float) → T (finite b.magnitude) → within b x ≡ true → T (finite x)
unfolding within le lt eq abs_of
within_finite b x h e = go x b.magnitude h e
  where
    go : (y m : Float) → T (finite m) → le (abs_of y) m ≡ true → T (finite y)
    go nan m t q = subst T (sym q) tt
    go (inf u) nan t q = absurd t
    go (inf u) (inf v) t q = absurd t
    go (inf u) (fin v a c) t q = subst T (sym q) tt
    go (fin u a c) m t q = tt

-- document 01's bound, 2 ^ 40, is
pub base_finite : T (finite base_bounds.magnitude)
unfolding base_bounds of_bits of_fields odd count_trailing_zeros
base_finite = tt

-- ---- what an accepted sheet's records are

-- the floats of a record that is good are within: of OP three from 2 on, of PD two from 31 on, of ND five from 4 on, of LK five from 9 on
pub options_floats : (b : Bounds) (s : List ℕ) → options_good b s ≡ true → all_within b 3 s 2 ≡ true
unfolding options_good
options_floats b s h =
    let a = all_within b 3 s 2 in
    let c = lt null (from_bytes s 2) in
    let d = le null (from_bytes s 10) in
    let e = le null (from_bytes s 18) in
    let f = leb 1 (pair_at s 26) in
    let g = leb (pair_at s 26) b.trials in
    and_left a c (and_left (a && c) d (and_left (a && c && d) e (and_left (a && c && d && e) f (and_left (a && c && d && e && f) g (and_left (a && c && d && e && f && g) (leb (byte_at s 28) b.unit) h)))))

-- and a PD's required pressure is not below its minimum
module _ (b : Bounds) (s : List ℕ) (h : pressures_good b s ≡ true) where
  pub pressures_floats : all_within b 2 s 31 ≡ true
  unfolding pressures_good
  pressures_floats = and_left (all_within b 2 s 31) (le (from_bytes s 31) (from_bytes s 39)) h

  pub pressures_order : le (pressures_of s).minimum (pressures_of s).required ≡ true
  unfolding pressures_good pressures_of
  pressures_order = and_right (all_within b 2 s 31) (le (from_bytes s 31) (from_bytes s 39)) h

pub node_floats : (b : Bounds) (s : List ℕ) (at : ℕ) → node_good b s at ≡ true → all_within b 5 s (at + 4) ≡ true
unfolding node_good
node_floats b s at h =
    let w = leb (byte_at s (at + 2)) 2 && leb (byte_at s (at + 3)) 1 in
    let a = all_within b 5 s (at + 4) in
    and_right w a (and_left (w && a) (leb (byte_at s (at + 44)) 1) h)

pub link_floats : (b : Bounds) (n : ℕ) (s : List ℕ) (at : ℕ) → link_good b n s at ≡ true → all_within b 5 s (at + 9) ≡ true
unfolding link_good link_numbers
link_floats b n s at h =
    let a = all_within b 5 s (at + 9) in
    let c = le null (from_bytes s (at + 17)) in
    let d = le null (from_bytes s (at + 33)) in
    let e = eqb (byte_at s (at + 2)) 0 || le b.diameter (from_bytes s (at + 25)) in
    and_left a c (and_left (a && c) d (and_left (a && c && d) e (and_right (link_codes n s at) (a && c && d && e) h)))

laid_same : (s : List ℕ) → Laid (layout_of s) s → Laid (with_unknowns s (layout_of s)) s
unfolding with_unknowns link_place
laid_same s h = record { options = h.options; nodes = h.nodes; links = h.links; stride = h.stride }

pressures_same : (s : List ℕ) → (with_unknowns s (layout_of s)).pressures ≡ has_pressures s
unfolding with_unknowns layout_of
pressures_same s = refl

options_is : (s : List ℕ) → has_options s ≡ readable 79 80 29 s 0
unfolding has_options
options_is s = refl

module _ (b : Bounds) (s : List ℕ) (l : Layout) (a : Accepted b s l) where
  -- both ends of every link are below the node count
  pub ends_are : EndsIn l s
  ends_are = ends_in b l s (no_bad_link b s l a.each_link)

  -- the sheet is as long as its layout asks, and its unknowns are the junctions in service
  pub laid_are : Laid l s
  laid_are = subst (λ (k : Layout). Laid k s) (sym a.laid) (laid_same s (laid_of s (options_fit s (has_options s) (options_is s) a.first)))

  pub unknowns_are : l.unknowns ≡ serving s l l.nodes
  unknowns_are = subst (λ (k : Layout). k.unknowns ≡ serving s k k.nodes) (sym a.laid) (unknowns_same s (layout_of s))

  -- it has a PD exactly where one stands straight after its OP, and that one's required pressure is not below its minimum
  pub pressures_are : l.pressures ≡ has_pressures s
  pressures_are = subst (λ (k : Layout). k.pressures ≡ has_pressures s) (sym a.laid) (pressures_same s)

  pub pressures_ordered : l.pressures ≡ true → le (pressures_of s).minimum (pressures_of s).required ≡ true
  pressures_ordered e = pressures_order b s (a.pressures e)

  -- every float is finite
  module _ (h : T (finite b.magnitude)) where
    pub options-finite : (j : ℕ) → j < 3 → T (finite (from_bytes s (2 + 8 * j)))
    options-finite j m = within_finite b _ h (each_within b 3 s 2 (options_floats b s a.options) j m)

    pub pressures-finite : l.pressures ≡ true → T (finite (pressures_of s).minimum) × T (finite (pressures_of s).required)
    unfolding pressures_of
    pressures-finite e =
        let each = each_within b 2 s 31 (pressures_floats b s (a.pressures e)) in
        (within_finite b _ h (each 0 (omega arith)), within_finite b _ h (each 1 (omega arith)))

    pub node-finite : (i : ℕ) → i < l.nodes → (j : ℕ) → j < 5 → T (finite (from_bytes s (node_place l i + 4 + 8 * j)))
    node-finite i n j m = within_finite b _ h (each_within b 5 s (node_place l i + 4) (node_floats b s (node_place l i) (a.each_node i n)) j m)

    pub link-finite : (i : ℕ) → i < l.links → (j : ℕ) → j < 5 → T (finite (from_bytes s (link_place l i + 9 + 8 * j)))
    link-finite i n j m = within_finite b _ h (each_within b 5 s (link_place l i + 9) (link_floats b l.nodes s (link_place l i) (a.each_link i n)) j m)
