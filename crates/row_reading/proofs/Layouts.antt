-- Two sheets whose bytes are the same but for the demands: the same layout, and the same reading but for the nodes' fields. Assumes nothing.
use Prim.Native.Nat.{ℕ, zero, suc, ◌+◌, ◌*◌, ◌≤◌, ◌<◌}
use mathlib.Core.Path.{◌≡◌, refl, sym, ap, ◌∙◌}
use mathlib.Core.Bool.{Bool, true, false, cond}
use mathlib.Core.List.{List}
use native.Mathlib.Omega.{arith}
use lib.ListN.{length, get_or}
use Rattle.layout.specs.Places.{heading, planned, link_place}
use Rattle.layout.specs.declared.places.Layout.{Layout}
use Rattle.layout.proofs.Laws.{at_least}
use Rattle.found.specs.Searches.{or_else}
use Rattle.nodes.specs.Nodes.{in_service, serving}
use Rattle.fields.specs.Fields.{pressures_good, link_good}
use Rattle.fields.specs.declared.fields.Bounds.{Bounds}
use Rattle.refusals.specs.declared.refusals.Refusal.TheVariants.{Field}
use Rattle.sheet.specs.Scan.{records_from, has_options, has_pressures, nodes_at, nodes_of, links_of, layout_of, end_of}
use Rattle.sheet.specs.Read.{bad_ends, bad_link, bad_node, bad_field, pressures_fine, unless, with_unknowns, checked, after_scan, read_with, Reading}
use Rattle.sheet.proofs.Readings.{no_field, right_counts, whole}
use Rattle.accepted.proofs.Accepts.{good_laid, good_counts, good_checked}
use Rattle.row_reading.proofs.Same.{served, first_same, options_same, pressures_same, link-same, ends_same, readable-same, records-same, same_before, same_low, same_behind, mark_same}
use Rattle.std.specs.Prelude.{None, Ok, Option, Some}

starts : (s : List ℕ) → 29 ≤ nodes_at s
unfolding nodes_at
starts s = at_least (has_pressures s)

-- where a PD stands, the first node stands behind it
starts_behind : (s : List ℕ) → has_pressures s ≡ true → 47 ≤ nodes_at s
unfolding nodes_at
starts_behind s e = omega (arith, ap heading e)

first_link : (s : List ℕ) → (layout_of s).link0 ≡ nodes_at s + 45 * nodes_of s
unfolding layout_of nodes_at
first_link s = refl

-- the counts by where they begin, and the layout by the counts
nodes_are : (t : List ℕ) (n at : ℕ) → length t ≡ n → nodes_at t ≡ at → nodes_of t ≡ records_from 78 68 45 n t at
unfolding nodes_of
nodes_are t n at e f = ap (λ (k : ℕ). records_from 78 68 45 k t (nodes_at t)) e ∙ ap (records_from 78 68 45 n t) f

links_are : (t : List ℕ) (n at m : ℕ) → length t ≡ n → nodes_at t ≡ at → nodes_of t ≡ m → links_of t ≡ records_from 76 75 49 n t (at + 45 * m)
unfolding links_of
links_are t n at m e f g =
    ap (λ (k : ℕ). records_from 76 75 49 k t (nodes_at t + 45 * nodes_of t)) e
    ∙ ap (λ (k : ℕ). records_from 76 75 49 n t (k + 45 * nodes_of t)) f
    ∙ ap (λ (k : ℕ). records_from 76 75 49 n t (at + 45 * k)) g

layout_is : (t : List ℕ) (p : Bool) (n k : ℕ) → has_pressures t ≡ p → nodes_of t ≡ n → links_of t ≡ k → layout_of t ≡ planned p n k 0
unfolding layout_of
layout_is t p n k e f g =
    ap (λ (x : Bool). planned x (nodes_of t) (links_of t) 0) e ∙ ap (λ (x : ℕ). planned p x (links_of t) 0) f ∙ ap (λ (x : ℕ). planned p n x 0) g

module _ (s t : List ℕ) (long : length t ≡ length s)
    (kept : (p : ℕ) → ((i : ℕ) → i < nodes_of s → nodes_at s + 45 * i + 12 ≤ p → p < nodes_at s + 45 * i + 20 → ⊥) → get_or t p 0 ≡ get_or s p 0) where
  -- ---- the layout

  before : (p : ℕ) → p < nodes_at s + 12 → get_or t p 0 ≡ get_or s p 0
  before = same_before s t (nodes_at s) (nodes_of s) kept

  behind : (p : ℕ) → nodes_at s + 45 * nodes_of s ≤ p → get_or t p 0 ≡ get_or s p 0
  behind = same_behind s t (nodes_at s) (nodes_of s) kept

  has_options_lem : has_options t ≡ has_options s
  unfolding has_options
  has_options_lem = readable-same s t long 79 80 29 0 (before 0 (omega (arith, starts s))) (before 1 (omega (arith, starts s)))

  has_pressures_lem : has_pressures t ≡ has_pressures s
  unfolding has_pressures
  has_pressures_lem = readable-same s t long 80 68 18 29 (before 29 (omega (arith, starts s))) (before 30 (omega (arith, starts s)))

  nodes_at_lem : nodes_at t ≡ nodes_at s
  unfolding nodes_at
  nodes_at_lem = ap heading has_pressures_lem

  nodes_of_lem : nodes_of t ≡ nodes_of s
  nodes_of_lem =
      nodes_are t (length s) (nodes_at s) long nodes_at_lem
      ∙ records-same s t long 78 68 45 (length s) (nodes_at s) (mark_same s t (nodes_at s) (nodes_of s) kept) (λ j. same_low s t (nodes_at s) (nodes_of s) kept j 1 (omega arith))
      ∙ sym (nodes_are s (length s) (nodes_at s) refl refl)

  links_of_lem : links_of t ≡ links_of s
  links_of_lem =
      links_are t (length s) (nodes_at s) (nodes_of s) long nodes_at_lem nodes_of_lem
      ∙ records-same s t long 76 75 49 (length s) (nodes_at s + 45 * nodes_of s) (λ j. behind (nodes_at s + 45 * nodes_of s + 49 * j) (omega arith)) (λ j. behind (nodes_at s + 45 * nodes_of s + 49 * j + 1) (omega arith))
      ∙ sym (links_are s (length s) (nodes_at s) (nodes_of s) refl refl refl)

  layout_same : layout_of t ≡ layout_of s
  layout_same = layout_is t (has_pressures s) (nodes_of s) (links_of s) has_pressures_lem nodes_of_lem links_of_lem ∙ sym (layout_is s (has_pressures s) (nodes_of s) (links_of s) refl refl refl)

  end_same : end_of t ≡ end_of s
  unfolding end_of
  end_same = ap (λ (l : Layout). link_place l l.links) layout_same

  -- ---- the unknowns

  service_same : (i : ℕ) → in_service t (layout_of s) i ≡ in_service s (layout_of s) i
  unfolding in_service layout_of nodes_at
  service_same i = rw (same_low s t (nodes_at s) (nodes_of s) kept i 2 (omega arith), same_low s t (nodes_at s) (nodes_of s) kept i 3 (omega arith))

  serving_same : (i : ℕ) → serving t (layout_of s) i ≡ serving s (layout_of s) i
  unfolding serving
  serving_same zero = refl
  serving_same (suc i) = served (in_service t (layout_of s) i) (in_service s (layout_of s) i) _ _ (service_same i) (serving_same i)

  unknowns_same : with_unknowns t (layout_of s) ≡ with_unknowns s (layout_of s)
  unfolding with_unknowns
  unknowns_same = rw (serving_same (layout_of s).nodes)

  -- ---- the fields and the ends

  module _ (b : Bounds) where
    fine-same : pressures_fine b (layout_of s) t ≡ pressures_fine b (layout_of s) s
    unfolding pressures_fine layout_of
    fine-same = go (has_pressures s) refl
      where
        go : (x : Bool) → has_pressures s ≡ x → cond x (pressures_good b t) true ≡ cond x (pressures_good b s) true
        go true e = pressures_same s t b (λ p h. before p (omega (arith, starts_behind s e)))
        go false e = refl

    links-same : bad_link b (layout_of s) t ≡ bad_link b (layout_of s) s
    unfolding bad_link
    links-same =
        let n : ℕ = (layout_of s).nodes in
        first_same (link_good b n s) (link_good b n t) (layout_of s).stride (layout_of s).links (layout_of s).link0
        (λ p m. link-same s t p (λ q a c. behind q (omega (arith, first_link s))) b n)

  bad_ends_same : bad_ends (layout_of s) t ≡ bad_ends (layout_of s) s
  unfolding bad_ends
  bad_ends_same =
      first_same _ _ (layout_of s).stride (layout_of s).links (layout_of s).link0
      (λ p m. ends_same s t p (λ q a c. behind q (omega (arith, first_link s))) (layout_of s) service_same)

  -- ---- the reading, where the first sheet is good

  module _ (b : Bounds) (l : Layout) (good : read_with b s ≡ Ok l) where
    only-nodes : (f : Option ℕ) (r : Reading) → unless (or_else f None) Field r ≡ unless f Field r
    only-nodes (Some p) r = refl
    only-nodes None r = refl

    field-same : (h : bad_field b (layout_of s) s ≡ None) → bad_field b (layout_of s) t ≡ or_else (bad_node b (layout_of s) t) None
    unfolding bad_field
    field-same h =
        let f = no_field b (layout_of s) s h in
        rw (options_same s t b (λ p m. before p (omega (arith, starts s))), f.0, fine-same b, f.1, links-same b, f.3)

    checked-same : checked b (layout_of s) s ≡ Ok l → checked b (layout_of s) t ≡ unless (bad_node b (layout_of s) t) Field (Ok l)
    unfolding checked
    checked-same h =
        let d = good_checked b (layout_of s) l s h in
        rw (field-same d.0, bad_ends_same, d.1, unknowns_same, d.2) (only-nodes (bad_node b (layout_of s) t) (Ok l))

    pub reading-same : read_with b t ≡ unless (bad_node b (layout_of s) t) Field (Ok l)
    reading-same =
        let w = good_laid b s l good in
        let c = good_counts b (layout_of s) l s w.2 in
        whole b t (has_options_lem ∙ w.0) (end_same ∙ w.1 ∙ sym long)
        ∙ ap (λ (k : Layout). after_scan b k t) layout_same
        ∙ right_counts b (layout_of s) t c.0 c.1 c.2
        ∙ checked-same c.3
