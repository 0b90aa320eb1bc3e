-- 1 to 5: what stands at the place, and before it. Assumes nothing.
use Prim.Native.Nat.{ℕ, zero, suc, ◌+◌, ◌*◌, ◌≤◌, ◌<◌}
use mathlib.Core.Path.{◌≡◌, refl, sym, ap, subst, ◌∙◌}
use mathlib.Core.Logic.{inl, inr}
use mathlib.Core.Bool.{Bool, true, false, cond, ◌&&◌}
use mathlib.Core.List.{List}
use native.Mathlib.Nat.{mul-zero, mul-suc}
use native.Mathlib.Omega.{arith}
use borrow.Author.Tests.{leb-true, leb-false, ltb-true, ltb-false, eqb-true, eqb-false}
use lib.Dec.{eqb, leb, ltb}
use lib.ListN.{length}
use Rattle.layout.specs.Places.{heading, link_place}
use Rattle.layout.specs.declared.places.Layout.{Layout}
use Rattle.found.specs.Searches.{or_else}
use Rattle.fields.specs.Fields.{base_bounds, options_good, node_good, link_good}
use Rattle.ends.specs.Ends.{ends_good}
use Rattle.refusals.specs.Refusals.{number_of, place_of}
use Rattle.refusals.specs.declared.refusals.Refusal.{Refusal}
use Rattle.refusals.specs.declared.refusals.Refusal.TheVariants.{Unreadable, NodeCount, LinkCount, Field, Ends}
use Rattle.sheet.specs.Scan.{readable, records_from, has_options, has_pressures, nodes_at, nodes_of, links_of, layout_of, end_of}
use Rattle.sheet.specs.Read.{first_bad, bad_ends, bad_link, bad_node, pressures_fine, bad_field, unless, with_unknowns, checked, after_scan, read_with, read_of}
use Rattle.sheet.proofs.Laws.{run_fits}
use Rattle.sheet.proofs.Readings.{fine_none, fine_some, no_field, each_node, each_link, heading_inside, options_fit}
use Rattle.answers.specs.Answers.{Lent, too_short}
use Rattle.solver.specs.Solve.{trials_of, solve_of}
use Rattle.promises.specs.Trials.{run_in}
use Rattle.promises.specs.Solves.{short_in}
use Rattle.promises.specs.Causes.{Cause, sheet, short, ended}
use Rattle.promises.specs.Places.{FirstBad, ReadTo, Unread, no_options, behind, WholeRead, node_count, link_count, RightCounts, HeadingGood, OutOfBounds, in_options_said, in_pressures_said, in_node, in_link, InBounds, RefusedFor, unread, miscounted, outside, ends, Tested, ShortAt}
use Rattle.promises.specs.Statements.{PlaceOfSheet, PlaceOfBuffer}
use Rattle.promises.proofs.Never.{other, never}
use Rattle.promises.proofs.Causes.{cause_of_told, end_past, short_only}
use Rattle.std.specs.Prelude.{Err, None, Ok, Option, Some}

-- ---- a run of records

-- each of them can be read,
run_each : (m n size k : ℕ) (s : List ℕ) (at i : ℕ) → i < records_from m n size k s at → readable m n size s (at + size * i) ≡ true
unfolding records_from
run_each m n size zero s at i h = absurd (omega (arith, h))
run_each m n size (suc k) s at i h = go (readable m n size s at) refl i h (λ j z. run_each m n size k s (at + size) j z)
  where
    go : (b : Bool) → readable m n size s at ≡ b → (i : ℕ) → i < cond {A = ℕ} b (suc (records_from m n size k s (at + size))) 0
        → ((j : ℕ) → j < records_from m n size k s (at + size) → readable m n size s (at + size + size * j) ≡ true) → readable m n size s (at + size * i) ≡ true
    go false e i h rest = absurd (omega (arith, h))
    go true e zero h rest = let q : at + size * 0 ≡ at = omega (arith, mul-zero size) in rw q e
    go true e (suc i) h rest = let q : at + size * suc i ≡ at + size + size * i = omega (arith, mul-suc size i) in rw q (rest i (omega (arith, h)))

-- and none behind the last, unless the count ran out
run_stops : (m n size k : ℕ) (s : List ℕ) (at : ℕ) → records_from m n size k s at < k → readable m n size s (at + size * records_from m n size k s at) ≡ false
unfolding records_from
run_stops m n size zero s at h = absurd (omega (arith, h))
run_stops m n size (suc k) s at h = go (readable m n size s at) refl h (λ z. run_stops m n size k s (at + size) z)
  where
    go : (b : Bool) → readable m n size s at ≡ b → cond {A = ℕ} b (suc (records_from m n size k s (at + size))) 0 < suc k
        → (records_from m n size k s (at + size) < k → readable m n size s (at + size + size * records_from m n size k s (at + size)) ≡ false)
        → readable m n size s (at + size * cond {A = ℕ} b (suc (records_from m n size k s (at + size))) 0) ≡ false
    go false e h rest = let q : at + size * 0 ≡ at = omega (arith, mul-zero size) in rw q e
    go true e h rest =
        let c = records_from m n size k s (at + size) in
        let q : at + size * suc c ≡ at + size + size * c = omega (arith, mul-suc size c) in
        rw q (rest (omega (arith, h)))

-- ---- the scan

options_is : (s : List ℕ) → has_options s ≡ readable 79 80 29 s 0
unfolding has_options
options_is s = refl

least_heading : (b : Bool) → 29 ≤ heading b
least_heading true = omega arith
least_heading false = omega arith

module _ (s : List ℕ) (op : has_options s ≡ true) where
  first_inside : heading (has_pressures s) ≤ length s
  unfolding has_pressures
  first_inside = heading_inside s (has_pressures s) (options_fit s (has_options s) (options_is s) op) refl

  nodes_inside : heading (has_pressures s) + 45 * nodes_of s ≤ length s
  unfolding nodes_of nodes_at
  nodes_inside = run_fits 78 68 45 (length s) s (heading (has_pressures s)) first_inside

  links_inside : heading (has_pressures s) + 45 * nodes_of s + 49 * links_of s ≤ length s
  unfolding links_of nodes_at
  links_inside = run_fits 76 75 49 (length s) s (heading (has_pressures s) + 45 * nodes_of s) nodes_inside

  read_to : ReadTo s (has_pressures s) (nodes_of s) (links_of s)
  unfolding has_pressures nodes_of links_of nodes_at
  read_to =
      let at = heading (has_pressures s) in
      let least = least_heading (has_pressures s) in
      record {
        options = sym (options_is s) ∙ op;
        pressures = refl;
        nodes = λ i h. run_each 78 68 45 (length s) s at i h;
        no_node = run_stops 78 68 45 (length s) s at (omega (arith, nodes_inside, least));
        links = λ j h. run_each 76 75 49 (length s) s (at + 45 * nodes_of s) j h;
        no_link = run_stops 76 75 49 (length s) s (at + 45 * nodes_of s) (omega (arith, links_inside, least));
      }

  unread_behind : (end_of s ≡ length s → ⊥) → Unread s (end_of s)
  unfolding end_of layout_of link_place
  unread_behind n = behind (has_pressures s) (nodes_of s) (links_of s) read_to (omega (arith, links_inside, n))

  whole_sheet : end_of s ≡ length s → WholeRead s (layout_of s)
  unfolding end_of layout_of
  whole_sheet e = record { read = read_to; ends = e }

-- ---- the first record that is not good

record Found-bad (good : ℕ → Bool) (size k at place : ℕ) : Type 0 where
  number : ℕ
  is : place ≡ at + size * number
  one : number < k
  bad : good (at + size * number) ≡ false
  earlier : (j : ℕ) → j < number → good (at + size * j) ≡ true

found_bad : (good : ℕ → Bool) (size k at place : ℕ) → first_bad good size k at ≡ Some place → Found-bad good size k at place
unfolding first_bad
found_bad good size zero at place e = other (cc)
found_bad good size (suc k) at place e = go (good at) refl e (λ f. found_bad good size k (at + size) place f)
  where
    first : at + size * 0 ≡ at
    first = omega (arith, mul-zero size)

    next : (i : ℕ) → at + size * suc i ≡ at + size + size * i
    next i = omega (arith, mul-suc size i)

    go : (b : Bool) → good at ≡ b → cond b (first_bad good size k (at + size)) (Some at) ≡ Some place → (first_bad good size k (at + size) ≡ Some place → Found-bad good size k (at + size) place) → Found-bad good size (suc k) at place
    go false g e rest =
        let same : at ≡ place = cc in
        record { number = 0; is = sym same ∙ sym first; one = omega arith; bad = ap good first ∙ g; earlier = λ j h. absurd (omega (arith, h)) }
    go true g e rest =
        let w = rest e in
        record {
          number = suc w.number;
          is = w.is ∙ sym (next w.number);
          one = omega (arith, w.one);
          bad = ap good (next w.number) ∙ w.bad;
          earlier = before w;
        }
      where
        before : (w : Found-bad good size k (at + size) place) (j : ℕ) → j < suc w.number → good (at + size * j) ≡ true
        before w zero h = ap good first ∙ g
        before w (suc j) h = ap good (next j) ∙ w.earlier j (omega (arith, h))

-- ---- 3

module _ (s : List ℕ) (l : Layout) where
  node_out : HeadingGood s l → (p : ℕ) → bad_node base_bounds l s ≡ Some p → OutOfBounds s l p
  unfolding bad_node
  node_out h p e =
      let w = found_bad (node_good base_bounds s) 45 l.nodes l.node0 p e in
      subst (OutOfBounds s l) (sym w.is) (in_node w.number h (record { one = w.one; bad = w.bad; earlier = w.earlier }))

  link_out : HeadingGood s l → bad_node base_bounds l s ≡ None → (p : ℕ) → bad_link base_bounds l s ≡ Some p → OutOfBounds s l p
  unfolding bad_link link_place
  link_out h nodes p e =
      let w = found_bad (link_good base_bounds l.nodes s) l.stride l.links l.link0 p e in
      subst (OutOfBounds s l) (sym w.is) (in_link w.number h (each_node base_bounds l s nodes) (record { one = w.one; bad = w.bad; earlier = w.earlier }))

  heading_good : options_good base_bounds s ≡ true → pressures_fine base_bounds l s ≡ true → HeadingGood s l
  heading_good o p = record { options = o; pressures = λ h. fine_some base_bounds l s h ∙ p }

  pressures_out : options_good base_bounds s ≡ true → pressures_fine base_bounds l s ≡ false → OutOfBounds s l 29
  pressures_out o p = go l.pressures refl
    where
      go : (b : Bool) → l.pressures ≡ b → OutOfBounds s l 29
      go true e = in_pressures_said o e (fine_some base_bounds l s e ∙ p)
      go false e = never (sym p ∙ sym (fine_none base_bounds l s e))

  field_out : (p : ℕ) → bad_field base_bounds l s ≡ Some p → OutOfBounds s l p
  unfolding bad_field
  field_out p e = go (options_good base_bounds s) refl (pressures_fine base_bounds l s) refl (bad_node base_bounds l s) refl e
    where
      go : (o : Bool) → options_good base_bounds s ≡ o → (d : Bool) → pressures_fine base_bounds l s ≡ d → (f : Option ℕ) → bad_node base_bounds l s ≡ f
          → cond o (cond d (or_else f (bad_link base_bounds l s)) (Some 29)) (Some 0) ≡ Some p → OutOfBounds s l p
      go false a d b f c z = let same : 0 ≡ p = cc in subst (OutOfBounds s l) same (in_options_said a)
      go true a false b f c z = let same : 29 ≡ p = cc in subst (OutOfBounds s l) same (pressures_out a b)
      go true a true b (Some q) c z = node_out (heading_good a b) p (c ∙ z)
      go true a true b None c z = link_out (heading_good a b) c p z

  -- ---- 4

  in_bounds : bad_field base_bounds l s ≡ None → InBounds s l
  in_bounds e = let w = no_field base_bounds l s e in record { head = heading_good w.0 w.1; nodes = each_node base_bounds l s w.2; links = each_link base_bounds l s w.3 }

  ends_bad : (p : ℕ) → bad_ends l s ≡ Some p → (j : ℕ) × ((p ≡ link_place l j) × FirstBad (ends_good l s) (link_place l) l.links j)
  unfolding bad_ends link_place
  ends_bad p e =
      let w = found_bad (ends_good l s) l.stride l.links l.link0 p e in
      (w.number, (w.is, record { one = w.one; bad = w.bad; earlier = w.earlier }))

-- ---- a sheet

module _ (s : List ℕ) (r : Refusal) where
  abbrev For : Refusal → Type 0
  For q = RefusedFor s (number_of q) (place_of q)

  checked_for : WholeRead s (layout_of s) → RightCounts (layout_of s) → checked base_bounds (layout_of s) s ≡ Err r → For r
  unfolding checked number_of place_of
  checked_for w n e = go (bad_field base_bounds (layout_of s) s) refl (bad_ends (layout_of s) s) refl e
    where
      go : (f : Option ℕ) → bad_field base_bounds (layout_of s) s ≡ f → (g : Option ℕ) → bad_ends (layout_of s) s ≡ g
          → unless f Field (unless g Ends (Ok (with_unknowns s (layout_of s)))) ≡ Err r → For r
      go (Some p) a g b z = let same : Field p ≡ r = cc in subst For same (outside p w n (field_out s (layout_of s) p a))
      go None a (Some p) b z =
          let same : Ends p ≡ r = cc in
          let d = ends_bad s (layout_of s) p b in
          subst For same (subst (RefusedFor s 4) (sym d.1.0) (ends d.0 w n (in_bounds s (layout_of s) a) d.1.1))
      go None a None b z = other (cc)

  counted_for : WholeRead s (layout_of s) → after_scan base_bounds (layout_of s) s ≡ Err r → For r
  unfolding after_scan number_of place_of base_bounds
  counted_for w e = go (leb 1 (layout_of s).nodes) refl (leb (layout_of s).nodes 64) refl (leb (layout_of s).links 128) refl e
    where
      go : (x : Bool) → leb 1 (layout_of s).nodes ≡ x → (y : Bool) → leb (layout_of s).nodes 64 ≡ y → (z : Bool) → leb (layout_of s).links 128 ≡ z
          → cond (x && y) (cond z (checked base_bounds (layout_of s) s) (Err LinkCount)) (Err NodeCount) ≡ Err r → For r
      go false a y b z c e = let same : NodeCount ≡ r = cc in subst For same (miscounted 0 w (node_count (inl (leb-false 1 (layout_of s).nodes a))))
      go true a false b z c e = let same : NodeCount ≡ r = cc in subst For same (miscounted 0 w (node_count (inr (leb-false (layout_of s).nodes 64 b))))
      go true a true b false c e =
          let same : LinkCount ≡ r = cc in
          subst For same (miscounted 1 w (link_count (leb-true 1 (layout_of s).nodes a) (leb-true (layout_of s).nodes 64 b) (leb-false (layout_of s).links 128 c)))
      go true a true b true c e =
          checked_for w (record { some = leb-true 1 (layout_of s).nodes a; nodes = leb-true (layout_of s).nodes 64 b; links = leb-true (layout_of s).links 128 c }) e

  refused_for : read_of s ≡ Err r → For r
  unfolding read_of read_with number_of place_of
  refused_for e = go (has_options s) refl (eqb (end_of s) (length s)) refl e
    where
      go : (x : Bool) → has_options s ≡ x → (y : Bool) → eqb (end_of s) (length s) ≡ y
          → cond x (cond y (after_scan base_bounds (layout_of s) s) (Err (Unreadable (end_of s)))) (Err (Unreadable 0)) ≡ Err r → For r
      go false a y b z = let same : Unreadable 0 ≡ r = cc in subst For same (unread 0 (no_options (sym (options_is s) ∙ a)))
      go true a false b z = let same : Unreadable (end_of s) ≡ r = cc in subst For same (unread (end_of s) (unread_behind s a (eqb-false (end_of s) (length s) b)))
      go true a true b z = counted_for (whole_sheet s a (eqb-true (end_of s) (length s) b)) z

-- 1 to 4: what stands at the place, with nothing of the kind before it and no cause of a lower number.
pub place_of_sheet : PlaceOfSheet
place_of_sheet s x a b = go (solve_of s x).answer.number (solve_of s x).answer.place (cause_of_told s x) a b
  where
    go : (n p : ℕ) → Cause s x n p → 1 ≤ n → n ≤ 4 → RefusedFor s n p
    go n p (sheet r e) a b = refused_for s r e
    go n p (short l q e f) a b = absurd (omega (arith, b))
    go n p (ended l w) a b = absurd (end_past (run_in s l).ended a (omega (arith, b)))

-- ---- 5

too_low_lem : {i has asked : ℕ} (place : ℕ) → place ≡ i → has < asked → Tested place i has asked
too_low_lem place e h = record { here = λ z. h; passed = λ z. absurd (omega (arith, e, z)) }

fits : {i has asked : ℕ} (place : ℕ) → i < place → asked ≤ has → Tested place i has asked
fits place e h = record { here = λ z. absurd (omega (arith, e, z)); passed = λ z. h }

untold : {i has asked : ℕ} (place : ℕ) → place < i → Tested place i has asked
untold place e = record { here = λ z. absurd (omega (arith, e, z)); passed = λ z. absurd (omega (arith, e, z)) }

module _ (l : Layout) (trials : ℕ) (b : Lent) (place : ℕ) where
  short_at : too_short l trials (length b.heads) (length b.demands) (length b.flows) (length b.statuses) (length b.entries) (length b.scratch) ≡ Some place → ShortAt l trials b place
  unfolding too_short
  short_at z =
      go (ltb (length b.heads) l.nodes) refl (ltb (length b.demands) l.nodes) refl (ltb (length b.flows) l.links) refl
      (ltb (length b.statuses) l.links) refl (ltb (length b.entries) (4 * trials)) refl (ltb (length b.scratch) 4096) refl z
    where
      go : (h : Bool) → ltb (length b.heads) l.nodes ≡ h → (d : Bool) → ltb (length b.demands) l.nodes ≡ d → (q : Bool) → ltb (length b.flows) l.links ≡ q
          → (c : Bool) → ltb (length b.statuses) l.links ≡ c → (r : Bool) → ltb (length b.entries) (4 * trials) ≡ r → (x : Bool) → ltb (length b.scratch) 4096 ≡ x
          → cond h (Some 0) (cond d (Some 1) (cond q (Some 2) (cond c (Some 3) (cond r (Some 4) (cond x (Some 5) None))))) ≡ Some place → ShortAt l trials b place
      go true h d d' q q' c c' r r' x x' z =
          let e : 0 ≡ place = cc in
          record {
            one = omega (arith, e);
            heads = too_low_lem place (sym e) (ltb-true _ _ h);
            demands = untold place (omega (arith, e));
            flows = untold place (omega (arith, e));
            statuses = untold place (omega (arith, e));
            entries = untold place (omega (arith, e));
            scratch = untold place (omega (arith, e));
          }
      go false h true d q q' c c' r r' x x' z =
          let e : 1 ≡ place = cc in
          record {
            one = omega (arith, e);
            heads = fits place (omega (arith, e)) (ltb-false _ _ h);
            demands = too_low_lem place (sym e) (ltb-true _ _ d);
            flows = untold place (omega (arith, e));
            statuses = untold place (omega (arith, e));
            entries = untold place (omega (arith, e));
            scratch = untold place (omega (arith, e));
          }
      go false h false d true q c c' r r' x x' z =
          let e : 2 ≡ place = cc in
          record {
            one = omega (arith, e);
            heads = fits place (omega (arith, e)) (ltb-false _ _ h);
            demands = fits place (omega (arith, e)) (ltb-false _ _ d);
            flows = too_low_lem place (sym e) (ltb-true _ _ q);
            statuses = untold place (omega (arith, e));
            entries = untold place (omega (arith, e));
            scratch = untold place (omega (arith, e));
          }
      go false h false d false q true c r r' x x' z =
          let e : 3 ≡ place = cc in
          record {
            one = omega (arith, e);
            heads = fits place (omega (arith, e)) (ltb-false _ _ h);
            demands = fits place (omega (arith, e)) (ltb-false _ _ d);
            flows = fits place (omega (arith, e)) (ltb-false _ _ q);
            statuses = too_low_lem place (sym e) (ltb-true _ _ c);
            entries = untold place (omega (arith, e));
            scratch = untold place (omega (arith, e));
          }
      go false h false d false q false c true r x x' z =
          let e : 4 ≡ place = cc in
          record {
            one = omega (arith, e);
            heads = fits place (omega (arith, e)) (ltb-false _ _ h);
            demands = fits place (omega (arith, e)) (ltb-false _ _ d);
            flows = fits place (omega (arith, e)) (ltb-false _ _ q);
            statuses = fits place (omega (arith, e)) (ltb-false _ _ c);
            entries = too_low_lem place (sym e) (ltb-true _ _ r);
            scratch = untold place (omega (arith, e));
          }
      go false h false d false q false c false r true x z =
          let e : 5 ≡ place = cc in
          record {
            one = omega (arith, e);
            heads = fits place (omega (arith, e)) (ltb-false _ _ h);
            demands = fits place (omega (arith, e)) (ltb-false _ _ d);
            flows = fits place (omega (arith, e)) (ltb-false _ _ q);
            statuses = fits place (omega (arith, e)) (ltb-false _ _ c);
            entries = fits place (omega (arith, e)) (ltb-false _ _ r);
            scratch = too_low_lem place (sym e) (ltb-true _ _ x);
          }
      go false h false d false q false c false r false x z = other (cc)

short_in_lem : (s : List ℕ) (l : Layout) (x : Lent) (p : ℕ) → short_in s l x ≡ Some p → ShortAt l (trials_of s) x p
unfolding short_in
short_in_lem s l x p e = short_at l (trials_of s) x p e

-- 5: the lowest buffer that is too short.
pub place_of_buffer : PlaceOfBuffer
place_of_buffer s x n = let r = short_only s x n in (r.0, (r.1.0, short_in_lem s r.0 x (solve_of s x).answer.place r.1.1))
