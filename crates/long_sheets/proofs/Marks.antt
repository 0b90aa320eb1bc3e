-- The four kinds of record, read byte by byte from where one starts. Assumes nothing.
use Prim.Native.Nat.{ℕ, suc, ◌+◌, ◌*◌, ◌≤◌, ◌<◌}
use mathlib.Core.Path.{◌≡◌, refl, sym, ap, ◌∙◌}
use mathlib.Core.Bool.{Bool, true, false, ◌&&◌, ◌||◌}
use mathlib.Core.List.{List}
use native.Mathlib.Omega.{arith}
use borrow.Author.Tests.{eq-eqb, ne_eqb, eqb-true, eqb-false, lt-ltb}
use lib.Dec.{eqb, ltb}
use lib.ListN.{length, get_or, drop}
use Rattle.layout.specs.Places.{node_offset, link_offset}
use Rattle.refusals.specs.declared.refusals.Refusal.TheVariants.{Unreadable}
use Rattle.sheet.specs.Scan.{readable}
use Rattle.sheet.proofs.Laws.{long_enough, fits, and_left, and_right}
use Rattle.stream.specs.Stream as spec
use Rattle.stream.specs.Stream.{step_of, fed_of, refusal_of, end_in_nodes, end_in_links, in_nodes, in_links, in_pressures}
use Rattle.stream.specs.declared.Progress.{Progress}
use Rattle.stream.specs.declared.Progress.TheVariants.{Options, Pressures, Nodes, Links, Stopped}
use Rattle.stream.proofs.Steps as steps
use Rattle.stream.proofs.Steps.{next_node, some_pressures, no_pressures, fits_first, fits_second, fits_rest, options_stop, options_more, options_whole, pressures_stop, pressures_more, pressures_whole, nodes_stop, nodes_more, nodes_whole, links_stop, links_more, links_whole}
use Rattle.long_sheets.proofs.Feeding.{fed_on, stays_told, whole, cut}

no_one : ◌≡◌ {A = ℕ} 1 0 → ⊥
no_one e = omega (arith, e)

-- a record with its mark, and one without
pub marked : (m n size : ℕ) (s : List ℕ) (at : ℕ) → readable m n size s at ≡ true → (at + size ≤ length s) × ((get_or s at 0 ≡ m) × (get_or s (at + 1) 0 ≡ n))
marked m n size s at h =
    let l = fits m n size s at h in
    let e = sym (long_enough m n size s at l) ∙ h in
    let x = eqb (get_or s at 0) m in
    let y = eqb (get_or s (at + 1) 0) n in
    (l, (eqb-true (get_or s at 0) m (and_left x y e), eqb-true (get_or s (at + 1) 0) n (and_right x y e)))

unmarked : (m n size : ℕ) (s : List ℕ) (at : ℕ) → readable m n size s at ≡ false → get_or s at 0 ≡ m → at + size ≤ length s → get_or s (at + 1) 0 ≡ n → ⊥
unmarked m n size s at h e l f =
    let t : readable m n size s at ≡ true = long_enough m n size s at l ∙ (rw (eq-eqb (get_or s at 0) m e, eq-eqb (get_or s (at + 1) 0) n f)) in
    let z : ◌≡◌ {A = Bool} true false = sym t ∙ h in
    let y : ◌≡◌ {A = ℕ} 0 1 = cc in
    omega (arith, y)

-- ---- options

module _ where
  options_fits : (got b : ℕ) → 2 ≤ got → spec.fits 79 80 got b ≡ true
  options_fits got b g = sym (fits_rest 79 80 got b (λ e. omega (arith, e)) (λ e. omega (arith, e)))

  options_first : (b : ℕ) → b ≡ 79 → step_of (Options 0) b ≡ Options 1
  unfolding step_of
  options_first b e = sym (options_more 0 b (sym (fits_first 79 80 0 b refl) ∙ eq-eqb b 79 e) (omega arith))

  options_second : (b : ℕ) → b ≡ 80 → step_of (Options 1) b ≡ Options 2
  unfolding step_of
  options_second b e = sym (options_more 1 b (sym (fits_second 79 80 1 b no_one refl) ∙ eq-eqb b 80 e) (omega arith))

  options_bad : (b : ℕ) → (b ≡ 80 → ⊥) → step_of (Options 1) b ≡ Stopped (0)
  unfolding step_of
  options_bad b e = sym (options_stop 1 b (sym (fits_second 79 80 1 b no_one refl) ∙ ne_eqb b 80 e))

  options_grows : (got b : ℕ) → 2 ≤ got → got < 28 → step_of (Options got) b ≡ Options (got + 1)
  unfolding step_of
  options_grows got b g l = sym (options_more got b (options_fits got b g) l)

  options_last : (b : ℕ) → step_of (Options 28) b ≡ Pressures 0
  unfolding step_of
  options_last b = sym (options_whole 28 b (options_fits 28 b (omega arith)) (omega arith))

  options_told : (got : ℕ) → 1 ≤ got → refusal_of (Options got) ≡ Unreadable (0)
  unfolding refusal_of end_in_nodes end_in_links
  options_told got g = refl

  pub options_read : (s : List ℕ) (at : ℕ) → readable 79 80 29 s at ≡ true → fed_of (Options 0) (drop at s) ≡ fed_of (Pressures 0) (drop (at + 29) s)
  options_read s at h =
      let m = marked 79 80 29 s at h in
      let q : at + 1 + 28 ≡ at + 29 = omega arith in
      fed_on s (Options 0) at (omega (arith, m.0)) ∙ (rw (options_first (get_or s at 0) m.1.0, ← q) (whole s Options 80 28 (Pressures 0) (0) options_second options_bad options_grows options_last (at + 1) (omega arith) (omega (arith, m.0)) m.1.1))

  pub options_cut : (s : List ℕ) (at : ℕ) → at < length s → get_or s at 0 ≡ 79 → readable 79 80 29 s at ≡ false → refusal_of (fed_of (Options 0) (drop at s)) ≡ Unreadable (0)
  options_cut s at l e h =
      ap refusal_of (fed_on s (Options 0) at l ∙ ap (λ (p : Progress). fed_of p (drop (at + 1) s)) (options_first (get_or s at 0) e))
      ∙ cut s Options 80 28 (Pressures 0) (0) options_second options_bad options_grows options_last (at + 1) (omega arith) options_told (λ x f. unmarked 79 80 29 s at h e (omega (arith, x)) f)

-- ---- pressures

module _ where
  pressures_fits : (got b : ℕ) → 2 ≤ got → spec.fits 80 68 got b ≡ true
  pressures_fits got b g = sym (fits_rest 80 68 got b (λ e. omega (arith, e)) (λ e. omega (arith, e)))

  pressures_on : (got b : ℕ) → 1 ≤ got → in_pressures got b ≡ step_of (Pressures got) b
  unfolding step_of
  pressures_on got b g =
      let t : (ltb 0 got || eqb b 80) ≡ true = rw (lt-ltb 0 got (omega arith)) in
      some_pressures got b t

  pressures_first : (b : ℕ) → b ≡ 80 → step_of (Pressures 0) b ≡ Pressures 1
  unfolding step_of
  pressures_first b e =
      let t : (ltb 0 0 || eqb b 80) ≡ true = rw (eq-eqb b 80 e) in
      sym (pressures_more 0 b (sym (fits_first 80 68 0 b refl) ∙ eq-eqb b 80 e) (omega arith) ∙ some_pressures 0 b t)

  pressures_second : (b : ℕ) → b ≡ 68 → step_of (Pressures 1) b ≡ Pressures 2
  pressures_second b e = sym (pressures_more 1 b (sym (fits_second 80 68 1 b no_one refl) ∙ eq-eqb b 68 e) (omega arith) ∙ pressures_on 1 b (omega arith))

  pressures_bad : (b : ℕ) → (b ≡ 68 → ⊥) → step_of (Pressures 1) b ≡ Stopped 29
  pressures_bad b e = sym (pressures_stop 1 b (sym (fits_second 80 68 1 b no_one refl) ∙ ne_eqb b 68 e) ∙ pressures_on 1 b (omega arith))

  pressures_grows : (got b : ℕ) → 2 ≤ got → got < 17 → step_of (Pressures got) b ≡ Pressures (got + 1)
  pressures_grows got b g l = sym (pressures_more got b (pressures_fits got b g) l ∙ pressures_on got b (omega arith))

  pressures_last : (b : ℕ) → step_of (Pressures 17) b ≡ Nodes true 0 0
  pressures_last b = sym (pressures_whole 17 b (pressures_fits 17 b (omega arith)) (omega arith) ∙ pressures_on 17 b (omega arith))

  pressures_told : (got : ℕ) → 1 ≤ got → refusal_of (Pressures got) ≡ Unreadable 29
  unfolding refusal_of end_in_nodes
  pressures_told got g = rw (ne_eqb got 0 (λ e. omega (arith, e)))

  pub pressures_read : (s : List ℕ) (at : ℕ) → readable 80 68 18 s at ≡ true → fed_of (Pressures 0) (drop at s) ≡ fed_of (Nodes true 0 0) (drop (at + 18) s)
  pressures_read s at h =
      let m = marked 80 68 18 s at h in
      let q : at + 1 + 17 ≡ at + 18 = omega arith in
      fed_on s (Pressures 0) at (omega (arith, m.0)) ∙ (rw (pressures_first (get_or s at 0) m.1.0, ← q) (whole s Pressures 68 17 (Nodes true 0 0) 29 pressures_second pressures_bad pressures_grows pressures_last (at + 1) (omega arith) (omega (arith, m.0)) m.1.1))

  pub pressures_cut : (s : List ℕ) (at : ℕ) → at < length s → get_or s at 0 ≡ 80 → readable 80 68 18 s at ≡ false → refusal_of (fed_of (Pressures 0) (drop at s)) ≡ Unreadable 29
  pressures_cut s at l e h =
      ap refusal_of (fed_on s (Pressures 0) at l ∙ ap (λ (p : Progress). fed_of p (drop (at + 1) s)) (pressures_first (get_or s at 0) e))
      ∙ cut s Pressures 68 17 (Nodes true 0 0) 29 pressures_second pressures_bad pressures_grows pressures_last (at + 1) (omega arith) pressures_told (λ x f. unmarked 80 68 18 s at h e (omega (arith, x)) f)

-- ---- nodes

module _ (d : Bool) (n : ℕ) where
  nodes_fits : (got b : ℕ) → 2 ≤ got → spec.fits 78 68 got b ≡ true
  nodes_fits got b g = sym (fits_rest 78 68 got b (λ e. omega (arith, e)) (λ e. omega (arith, e)))

  nodes_on : (got b : ℕ) → 1 ≤ got → in_nodes d n got b ≡ step_of (Nodes d n got) b
  unfolding step_of
  nodes_on got b g =
      let t : (eqb got 0 && eqb b 76) ≡ false = rw (ne_eqb got 0 (λ x. omega (arith, x))) in
      next_node d n got b t

  nodes_first : (b : ℕ) → b ≡ 78 → step_of (Nodes d n 0) b ≡ Nodes d n 1
  unfolding step_of
  nodes_first b e =
      let t : (eqb 0 0 && eqb b 76) ≡ false = rw (ne_eqb b 76 (λ x. omega (arith, x, e))) in
      sym (nodes_more d n 0 b (sym (fits_first 78 68 0 b refl) ∙ eq-eqb b 78 e) (omega arith) ∙ next_node d n 0 b t)

  nodes_second : (b : ℕ) → b ≡ 68 → step_of (Nodes d n 1) b ≡ Nodes d n 2
  nodes_second b e = sym (nodes_more d n 1 b (sym (fits_second 78 68 1 b no_one refl) ∙ eq-eqb b 68 e) (omega arith) ∙ nodes_on 1 b (omega arith))

  nodes_bad : (b : ℕ) → (b ≡ 68 → ⊥) → step_of (Nodes d n 1) b ≡ Stopped (node_offset d n)
  nodes_bad b e = sym (nodes_stop d n 1 b (node_offset d n) refl (sym (fits_second 78 68 1 b no_one refl) ∙ ne_eqb b 68 e) ∙ nodes_on 1 b (omega arith))

  nodes_grows : (got b : ℕ) → 2 ≤ got → got < 44 → step_of (Nodes d n got) b ≡ Nodes d n (got + 1)
  nodes_grows got b g l = sym (nodes_more d n got b (nodes_fits got b g) l ∙ nodes_on got b (omega arith))

  nodes_last : (b : ℕ) → step_of (Nodes d n 44) b ≡ Nodes d (n + 1) 0
  nodes_last b = sym (nodes_whole d n 44 b (nodes_fits 44 b (omega arith)) (omega arith) ∙ nodes_on 44 b (omega arith))

  nodes_told : (got : ℕ) → 1 ≤ got → refusal_of (Nodes d n got) ≡ Unreadable (node_offset d n)
  unfolding refusal_of end_in_nodes end_in_links
  nodes_told got g = rw (ne_eqb got 0 (λ e. omega (arith, e)))

  pub nodes_read : (s : List ℕ) (at : ℕ) → readable 78 68 45 s at ≡ true → fed_of (Nodes d n 0) (drop at s) ≡ fed_of (Nodes d (n + 1) 0) (drop (at + 45) s)
  nodes_read s at h =
      let m = marked 78 68 45 s at h in
      let q : at + 1 + 44 ≡ at + 45 = omega arith in
      fed_on s (Nodes d n 0) at (omega (arith, m.0)) ∙ (rw (nodes_first (get_or s at 0) m.1.0, ← q) (whole s (λ got. Nodes d n got) 68 44 (Nodes d (n + 1) 0) (node_offset d n) nodes_second nodes_bad nodes_grows nodes_last (at + 1) (omega arith) (omega (arith, m.0)) m.1.1))

  pub nodes_cut : (s : List ℕ) (at : ℕ) → at < length s → get_or s at 0 ≡ 78 → readable 78 68 45 s at ≡ false → refusal_of (fed_of (Nodes d n 0) (drop at s)) ≡ Unreadable (node_offset d n)
  nodes_cut s at l e h =
      ap refusal_of (fed_on s (Nodes d n 0) at l ∙ ap (λ (p : Progress). fed_of p (drop (at + 1) s)) (nodes_first (get_or s at 0) e))
      ∙ cut s (λ got. Nodes d n got) 68 44 (Nodes d (n + 1) 0) (node_offset d n) nodes_second nodes_bad nodes_grows nodes_last (at + 1) (omega arith) nodes_told (λ x f. unmarked 78 68 45 s at h e (omega (arith, x)) f)

-- ---- links

module _ (d : Bool) (n k : ℕ) where
  links_fits : (got b : ℕ) → 2 ≤ got → spec.fits 76 75 got b ≡ true
  links_fits got b g = sym (fits_rest 76 75 got b (λ e. omega (arith, e)) (λ e. omega (arith, e)))

  links_first : (b : ℕ) → b ≡ 76 → step_of (Links d n k 0) b ≡ Links d n k 1
  unfolding step_of
  links_first b e = sym (links_more d n k 0 b (sym (fits_first 76 75 0 b refl) ∙ eq-eqb b 76 e) (omega arith))

  links_second : (b : ℕ) → b ≡ 75 → step_of (Links d n k 1) b ≡ Links d n k 2
  unfolding step_of
  links_second b e = sym (links_more d n k 1 b (sym (fits_second 76 75 1 b no_one refl) ∙ eq-eqb b 75 e) (omega arith))

  links_bad : (b : ℕ) → (b ≡ 75 → ⊥) → step_of (Links d n k 1) b ≡ Stopped (link_offset d n k)
  unfolding step_of
  links_bad b e = sym (links_stop d n k 1 b (link_offset d n k) refl (sym (fits_second 76 75 1 b no_one refl) ∙ ne_eqb b 75 e))

  links_grows : (got b : ℕ) → 2 ≤ got → got < 48 → step_of (Links d n k got) b ≡ Links d n k (got + 1)
  unfolding step_of
  links_grows got b g l = sym (links_more d n k got b (links_fits got b g) l)

  links_last : (b : ℕ) → step_of (Links d n k 48) b ≡ Links d n (k + 1) 0
  unfolding step_of
  links_last b = sym (links_whole d n k 48 b (links_fits 48 b (omega arith)) (omega arith))

  links_told : (got : ℕ) → 1 ≤ got → refusal_of (Links d n k got) ≡ Unreadable (link_offset d n k)
  unfolding refusal_of end_in_nodes end_in_links
  links_told got g = rw (ne_eqb got 0 (λ e. omega (arith, e)))

  pub links_read : (s : List ℕ) (at : ℕ) → readable 76 75 49 s at ≡ true → fed_of (Links d n k 0) (drop at s) ≡ fed_of (Links d n (k + 1) 0) (drop (at + 49) s)
  links_read s at h =
      let m = marked 76 75 49 s at h in
      let q : at + 1 + 48 ≡ at + 49 = omega arith in
      fed_on s (Links d n k 0) at (omega (arith, m.0)) ∙ (rw (links_first (get_or s at 0) m.1.0, ← q) (whole s (λ got. Links d n k got) 75 48 (Links d n (k + 1) 0) (link_offset d n k) links_second links_bad links_grows links_last (at + 1) (omega arith) (omega (arith, m.0)) m.1.1))

  pub links_cut : (s : List ℕ) (at : ℕ) → at < length s → get_or s at 0 ≡ 76 → readable 76 75 49 s at ≡ false → refusal_of (fed_of (Links d n k 0) (drop at s)) ≡ Unreadable (link_offset d n k)
  links_cut s at l e h =
      ap refusal_of (fed_on s (Links d n k 0) at l ∙ ap (λ (p : Progress). fed_of p (drop (at + 1) s)) (links_first (get_or s at 0) e))
      ∙ cut s (λ got. Links d n k got) 75 48 (Links d n (k + 1) 0) (link_offset d n k) links_second links_bad links_grows links_last (at + 1) (omega arith) links_told (λ x f. unmarked 76 75 49 s at h e (omega (arith, x)) f)

-- ---- no record at all

pub options_none : (s : List ℕ) (at : ℕ) → at < length s → (get_or s at 0 ≡ 79 → ⊥) → refusal_of (fed_of (Options 0) (drop at s)) ≡ Unreadable 0
unfolding step_of
options_none s at l e =
    let b = get_or s at 0 in
    ap refusal_of (fed_on s (Options 0) at l ∙ ap (λ (p : Progress). fed_of p (drop (at + 1) s)) (sym (options_stop 0 b (sym (fits_first 79 80 0 b refl) ∙ ne_eqb b 79 e)))) ∙ stays_told 0 (drop (at + 1) s)

pub nodes_none : (d : Bool) (n : ℕ) (s : List ℕ) (at : ℕ) → at < length s → (get_or s at 0 ≡ 78 → ⊥) → (get_or s at 0 ≡ 76 → ⊥) → refusal_of (fed_of (Nodes d n 0) (drop at s)) ≡ Unreadable (node_offset d n)
unfolding step_of
nodes_none d n s at l e f =
    let b = get_or s at 0 in
    let t : (eqb 0 0 && eqb b 76) ≡ false = rw (ne_eqb b 76 f) in
    ap refusal_of (fed_on s (Nodes d n 0) at l ∙ ap (λ (p : Progress). fed_of p (drop (at + 1) s)) (sym (nodes_stop d n 0 b (node_offset d n) refl (sym (fits_first 78 68 0 b refl) ∙ ne_eqb b 78 e) ∙ next_node d n 0 b t))) ∙ stays_told (node_offset d n) (drop (at + 1) s)

pub links_none : (d : Bool) (n k : ℕ) (s : List ℕ) (at : ℕ) → at < length s → (get_or s at 0 ≡ 76 → ⊥) → refusal_of (fed_of (Links d n k 0) (drop at s)) ≡ Unreadable (link_offset d n k)
unfolding step_of
links_none d n k s at l e =
    let b = get_or s at 0 in
    ap refusal_of (fed_on s (Links d n k 0) at l ∙ ap (λ (p : Progress). fed_of p (drop (at + 1) s)) (sym (links_stop d n k 0 b (link_offset d n k) refl (sym (fits_first 76 75 0 b refl) ∙ ne_eqb b 76 e)))) ∙ stays_told (link_offset d n k) (drop (at + 1) s)

-- an L where a node could start is the first link's
pub first_link : (d : Bool) (n : ℕ) (s : List ℕ) (at : ℕ) → at < length s → get_or s at 0 ≡ 76 → fed_of (Nodes d n 0) (drop at s) ≡ fed_of (Links d n 0 0) (drop at s)
unfolding step_of
first_link d n s at l e =
    let b = get_or s at 0 in
    let t : (eqb 0 0 && eqb b 76) ≡ true = rw (eq-eqb b 76 e) in
    fed_on s (Nodes d n 0) at l ∙ ap (λ (p : Progress). fed_of p (drop (at + 1) s)) (sym (steps.first_link d n 0 b t)) ∙ sym (fed_on s (Links d n 0 0) at l)

-- straight after the OP, any byte but a P stands where nodes do
pub first_node : (s : List ℕ) (at : ℕ) → at < length s → (get_or s at 0 ≡ 80 → ⊥) → fed_of (Pressures 0) (drop at s) ≡ fed_of (Nodes false 0 0) (drop at s)
unfolding step_of
first_node s at l e =
    let b = get_or s at 0 in
    let t : (ltb 0 0 || eqb b 80) ≡ false = rw (ne_eqb b 80 e) in
    fed_on s (Pressures 0) at l ∙ ap (λ (p : Progress). fed_of p (drop (at + 1) s)) (sym (no_pressures 0 b t)) ∙ sym (fed_on s (Nodes false 0 0) at l)
