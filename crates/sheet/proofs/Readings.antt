-- The cases of a reading, over plain variables. Assumes nothing.
use mathlib.Core.Path.{◌≡◌, refl, sym, ap, ◌∙◌, subst}
use mathlib.Core.Bool.{Bool, true, false, cond, ◌&&◌}
use mathlib.Core.List.{List}
use Prim.Native.Nat.{ℕ, ◌+◌, ◌*◌, ◌≤◌, ◌<◌}
use native.Mathlib.Omega.{arith}
use lib.Dec.{leb, ltb}
use lib.ListN.{length}
use borrow.Author.Tests.{le-leb, lt-leb, eq-eqb, ne_eqb, ltb-true}
use Rattle.layout.specs.Places.{Laid, heading, node_place, link_place}
use Rattle.layout.specs.declared.places.Layout.{Layout}
use Rattle.found.specs.Searches.{or_else}
use Rattle.links.specs.Links.{EndsIn, link_start, link_end}
use Rattle.sheet.specs.Scan.{has_options, has_pressures, nodes_at, nodes_of, links_of, layout_of, end_of, readable, records_from}
use Rattle.records.specs.Records.{byte_at, pair_at}
use Rattle.fields.specs.Fields.{options_good, pressures_good, node_good, link_codes, link_numbers, link_good}
use Rattle.ends.specs.Ends.{ends_good}
use Rattle.sheet.specs.Read.{bad_node, bad_link, pressures_fine, bad_field, bad_ends, with_unknowns, checked, after_scan, read_with}
use Rattle.fields.specs.declared.fields.Bounds.{Bounds}
use Rattle.refusals.specs.declared.refusals.Refusal.TheVariants.{Unreadable, NodeCount, LinkCount, Field, Ends}
use Rattle.sheet.proofs.Laws.{all_good, and_left, and_right, fits, run_fits}
use Rattle.std.specs.Prelude.{Err, None, Ok, Option, Some}

link_good_is : (b : Bounds) (n : ℕ) (s : List ℕ) (at : ℕ) → link_good b n s at ≡ (link_codes n s at && link_numbers b s at)
unfolding link_good
link_good_is b n s at = refl

module _ (b : Bounds) (l : Layout) (s : List ℕ) where
  -- ---- refusal 3

  pub fine_none : l.pressures ≡ false → true ≡ pressures_fine b l s
  unfolding pressures_fine
  fine_none h = rw h

  pub fine_some : l.pressures ≡ true → pressures_good b s ≡ pressures_fine b l s
  unfolding pressures_fine
  fine_some h = rw h

  -- a PD that is good where there is one is fine
  pub fine_where : (l.pressures ≡ true → pressures_good b s ≡ true) → pressures_fine b l s ≡ true
  fine_where h = go l.pressures refl
    where
      go : (p : Bool) → l.pressures ≡ p → pressures_fine b l s ≡ true
      go true e = sym (fine_some e) ∙ h e
      go false e = sym (fine_none e)

  pub field_options : options_good b s ≡ false → bad_field b l s ≡ Some 0
  unfolding bad_field
  field_options h = rw h

  module _ (options : options_good b s ≡ true) where
    pub field-pressures : pressures_fine b l s ≡ false → bad_field b l s ≡ Some 29
    unfolding bad_field
    field-pressures h = rw (options, h)

    module _ (pressures : pressures_fine b l s ≡ true) where
      pub field-node : (p : ℕ) → bad_node b l s ≡ Some p → bad_field b l s ≡ Some p
      unfolding bad_field
      field-node p e = rw (options, pressures, e)

      pub field-link : bad_node b l s ≡ None → bad_field b l s ≡ bad_link b l s
      unfolding bad_field
      field-link e = rw (options, pressures, e)

  -- where no field is out of bounds, the options are good, the PD is fine, and every node and link is good
  pub no_field : bad_field b l s ≡ None → (options_good b s ≡ true) × (pressures_fine b l s ≡ true) × (bad_node b l s ≡ None) × (bad_link b l s ≡ None)
  unfolding bad_field
  no_field e = go (options_good b s) refl (pressures_fine b l s) refl (bad_node b l s) refl e
    where
      go : (o : Bool) → options_good b s ≡ o → (d : Bool) → pressures_fine b l s ≡ d → (f : Option ℕ) → bad_node b l s ≡ f → cond o (cond d (or_else f (bad_link b l s)) (Some 29)) (Some 0) ≡ None
          → (options_good b s ≡ true) × (pressures_fine b l s ≡ true) × (bad_node b l s ≡ None) × (bad_link b l s ≡ None)
      go false p d r f q h = absurd (let z : ◌≡◌ {A = ℕ} 0 1 = cc in omega arith)
      go true p false r f q h = absurd (let z : ◌≡◌ {A = ℕ} 0 1 = cc in omega arith)
      go true p true r (Some x) q h = absurd (let z : ◌≡◌ {A = ℕ} 0 1 = cc in omega arith)
      go true p true r None q h = (p, r, q, h)

  -- ---- refusals 3 and 4

  pub checked_field : (p : ℕ) → bad_field b l s ≡ Some p → checked b l s ≡ Err (Field p)
  unfolding checked
  checked_field p e = rw e

  pub checked_ends : (p : ℕ) → bad_field b l s ≡ None → bad_ends l s ≡ Some p → checked b l s ≡ Err (Ends p)
  unfolding checked
  checked_ends p e f = rw (e, f)

  pub checked_good : bad_field b l s ≡ None → bad_ends l s ≡ None → checked b l s ≡ Ok (with_unknowns s l)
  unfolding checked
  checked_good e f = rw (e, f)

  -- ---- refusal 2

  pub no_nodes : l.nodes < 1 → after_scan b l s ≡ Err NodeCount
  unfolding after_scan
  no_nodes h = simp (lt-leb 1 l.nodes h)

  pub many_nodes : 1 ≤ l.nodes → b.nodes < l.nodes → after_scan b l s ≡ Err NodeCount
  unfolding after_scan
  many_nodes e h = simp (le-leb 1 l.nodes e, lt-leb l.nodes b.nodes h)

  pub many_links : 1 ≤ l.nodes → l.nodes ≤ b.nodes → b.links < l.links → after_scan b l s ≡ Err LinkCount
  unfolding after_scan
  many_links e m h = simp (le-leb 1 l.nodes e, le-leb l.nodes b.nodes m, lt-leb l.links b.links h)

  pub right_counts : 1 ≤ l.nodes → l.nodes ≤ b.nodes → l.links ≤ b.links → after_scan b l s ≡ checked b l s
  unfolding after_scan
  right_counts e m h = simp (le-leb 1 l.nodes e, le-leb l.nodes b.nodes m, le-leb l.links b.links h)

  -- ---- the ends of links whose codes are good

  pub codes_ends : (at : ℕ) → link_codes l.nodes s at ≡ true → (pair_at s (at + 5) < l.nodes) × (pair_at s (at + 7) < l.nodes)
  unfolding link_codes
  codes_ends at h =
      let w = leb (byte_at s (at + 2)) 6 && leb (byte_at s (at + 3)) 1 && leb (byte_at s (at + 4)) 7 in
      let x = ltb (pair_at s (at + 5)) l.nodes in
      let y = ltb (pair_at s (at + 7)) l.nodes in
      (ltb-true (pair_at s (at + 5)) l.nodes (and_right w x (and_left (w && x) y h)), ltb-true (pair_at s (at + 7)) l.nodes (and_right (w && x) y h))

  -- where nothing is found, each link and each node is good
  pub each_link : bad_link b l s ≡ None → (j : ℕ) → j < l.links → link_good b l.nodes s (link_place l j) ≡ true
  unfolding bad_link link_place
  each_link e j h = all_good (link_good b l.nodes s) l.stride l.links l.link0 e j h

  pub each_node : bad_node b l s ≡ None → (i : ℕ) → i < l.nodes → node_good b s (node_place l i) ≡ true
  unfolding bad_node
  each_node e i h = all_good (node_good b s) 45 l.nodes l.node0 e i h

  pub each_ends : bad_ends l s ≡ None → (j : ℕ) → j < l.links → ends_good l s (link_place l j) ≡ true
  unfolding bad_ends link_place
  each_ends e j h = all_good (ends_good l s) l.stride l.links l.link0 e j h

  pub ends_in : bad_link b l s ≡ None → EndsIn l s
  unfolding link_start link_end
  ends_in e = record { start = λ j h. (codes_ends (link_place l j) (codes j h)).0; end = λ j h. (codes_ends (link_place l j) (codes j h)).1 }
    where
      codes : (j : ℕ) → j < l.links → link_codes l.nodes s (link_place l j) ≡ true
      codes j h = and_left (link_codes l.nodes s (link_place l j)) (link_numbers b s (link_place l j)) (sym (link_good_is b l.nodes s (link_place l j)) ∙ each_link e j h)

-- ---- refusal 1

module _ (b : Bounds) (s : List ℕ) where
  pub no_options : has_options s ≡ false → read_with b s ≡ Err (Unreadable 0)
  unfolding read_with
  no_options h = rw h

  pub broken : has_options s ≡ true → (end_of s ≡ length s → ⊥) → read_with b s ≡ Err (Unreadable (end_of s))
  unfolding read_with
  broken h l = rw (h, ne_eqb (end_of s) (length s) l)

  pub whole : has_options s ≡ true → end_of s ≡ length s → read_with b s ≡ after_scan b (layout_of s) s
  unfolding read_with
  whole h l = rw (h, eq-eqb (end_of s) (length s) l)

-- ---- the layout: a PD from 29 on or none, so many ND behind it, so many LK behind them

-- what stands before the first node is in the sheet
pub heading_inside : (s : List ℕ) (flag : Bool) → 29 ≤ length s → flag ≡ readable 80 68 18 s 29 → heading flag ≤ length s
heading_inside s true h e = omega (arith, fits 80 68 18 s 29 (sym e))
heading_inside s false h e = h

pub run_inside : (s : List ℕ) (first second size at n : ℕ) → at ≤ length s → n ≡ records_from first second size (length s) s at → at + size * n ≤ length s
run_inside s first second size at n h e = rw e (run_fits first second size (length s) s at h)

pub layout_of_lem : (s : List ℕ) (flag : Bool) (start n at k : ℕ) → flag ≡ readable 80 68 18 s 29 → start ≡ heading flag → n ≡ records_from 78 68 45 (length s) s start → at ≡ start + 45 * n → k ≡ records_from 76 75 49 (length s) s at
    → ◌≡◌ {A = Layout} (record { nodes = n; links = k; unknowns = 0; node0 = start; link0 = at; stride = 49; pressures = flag }) (layout_of s)
unfolding layout_of nodes_of links_of nodes_at has_pressures
layout_of_lem s flag start n at k ef es en ea ek = rw (ek, ea, en, es, ef)

pub laid_of : (s : List ℕ) → 29 ≤ length s → Laid (layout_of s) s
unfolding layout_of nodes_of links_of nodes_at has_pressures link_place
laid_of s h =
    let start = heading (readable 80 68 18 s 29) in
    let behind = run_inside s 78 68 45 start _ (heading_inside s _ h refl) refl in
    record { options = omega arith; nodes = behind; links = run_inside s 76 75 49 _ _ behind refl; stride = omega arith }

pub options_are : (s : List ℕ) (flag : Bool) → flag ≡ readable 79 80 29 s 0 → has_options s ≡ flag
unfolding has_options
options_are s flag e = sym e

pub options_fit : (s : List ℕ) (flag : Bool) → flag ≡ readable 79 80 29 s 0 → flag ≡ true → 29 ≤ length s
options_fit s flag e h = omega (arith, fits 79 80 29 s 0 (sym e ∙ h))
