-- A node that is good but for its demand, and the first one whose demand is not. Assumes nothing.
use Prim.Native.Nat.{ℕ, zero, suc, ◌+◌, ◌*◌, ◌≤◌, ◌<◌}
use mathlib.Core.Path.{◌≡◌, refl, ap, ◌∙◌, subst}
use mathlib.Core.Bool.{Bool, true, false, not, cond, ◌&&◌}
use mathlib.Core.List.{List}
use native.Mathlib.Omega.{arith}
use lib.Dec.{leb}
use lib.ListN.{get_or}
use Rattle.patterns.specs.Bytes.{from_bytes}
use Rattle.layout.specs.Places.{node_place}
use Rattle.layout.specs.declared.places.Layout.{Layout}
use Rattle.found.specs.Searches.{first_from}
use Rattle.records.specs.Records.{byte_at}
use Rattle.fields.specs.Fields.{within, all_within, node_good}
use Rattle.fields.specs.declared.fields.Bounds.{Bounds}
use Rattle.sheet.specs.Read.{first_bad}
use Rattle.sheet.proofs.Laws.{and_left, and_right}
use Rattle.accepted.proofs.Accepts.{each_within, node_floats}
use Rattle.row_sheet.specs.RowSheet.{node_found}
use Rattle.row_reading.proofs.Bytes.{float_same}
use Rattle.std.specs.Prelude.{Option, Some}

-- ---- what is left of five tests, or of four, where all but one hold

five : (v w x y z : Bool) → v ≡ true → x ≡ true → y ≡ true → z ≡ true → (true && v && w && x && y && z) ≡ w
five v w x y z ev ex ey ez = rw (ev, ex, ey, ez) (go w)
  where
    go : (w : Bool) → (w && true && true && true) ≡ w
    go true = refl
    go false = refl

four : (v w x y : Bool) → v ≡ true → w ≡ true → y ≡ true → (v && w && x && y) ≡ x
four v w x y ev ew ey = rw (ev, ew, ey) (go x)
  where
    go : (x : Bool) → (x && true) ≡ x
    go true = refl
    go false = refl

five_floats : (b : Bounds) (t : List ℕ) (at : ℕ)
    → all_within b 5 t at ≡ (true && within b (from_bytes t (at + 8 * 0)) && within b (from_bytes t (at + 8 * 1)) && within b (from_bytes t (at + 8 * 2)) && within b (from_bytes t (at + 8 * 3)) && within b (from_bytes t (at + 8 * 4)))
unfolding all_within
five_floats b t at = refl

-- a node whose bytes are those of a good one, but for the eight of its demand
module _ (b : Bounds) (s t : List ℕ) (at : ℕ) (good : node_good b s at ≡ true) (low : (p : ℕ) → at ≤ p → p < at + 12 → get_or t p 0 ≡ get_or s p 0)
    (high : (p : ℕ) → at + 20 ≤ p → p < at + 45 → get_or t p 0 ≡ get_or s p 0) where
  floats_good : all_within b 5 t (at + 4) ≡ within b (from_bytes t (at + 12))
  floats_good =
      let each = each_within b 5 s (at + 4) (node_floats b s at good) in
      let e : at + 4 + 8 * 1 ≡ at + 12 = omega arith in
      five_floats b t (at + 4)
      ∙ five _ _ _ _ _ (ap (within b) (float_same s t (at + 4 + 8 * 0) (λ p a c. low p (omega arith) (omega arith))) ∙ each 0 (omega arith))
      (ap (within b) (float_same s t (at + 4 + 8 * 2) (λ p a c. high p (omega arith) (omega arith))) ∙ each 2 (omega arith))
      (ap (within b) (float_same s t (at + 4 + 8 * 3) (λ p a c. high p (omega arith) (omega arith))) ∙ each 3 (omega arith))
      (ap (within b) (float_same s t (at + 4 + 8 * 4) (λ p a c. high p (omega arith) (omega arith))) ∙ each 4 (omega arith))
      ∙ ap (λ (p : ℕ). within b (from_bytes t p)) e

  pub but_demand : node_good b t at ≡ within b (from_bytes t (at + 12))
  unfolding node_good
  but_demand =
      let kind = leb (byte_at s (at + 2)) 2 in
      let flag = leb (byte_at s (at + 3)) 1 in
      let floats = all_within b 5 s (at + 4) in
      let over = leb (byte_at s (at + 44)) 1 in
      let front = and_left (kind && flag) floats (and_left (kind && flag && floats) over good) in
      four _ _ _ _ (ap (λ (n : ℕ). leb n 2) (low (at + 2) (omega arith) (omega arith)) ∙ and_left kind flag front)
      (ap (λ (n : ℕ). leb n 1) (low (at + 3) (omega arith) (omega arith)) ∙ and_right kind flag front)
      (ap (λ (n : ℕ). leb n 1) (high (at + 44) (omega arith) (omega arith)) ∙ and_right (kind && flag && floats) over good)
      ∙ floats_good

-- ---- the search

turn : (l : Layout) (i : ℕ) (x y : Bool) (f g : Option ℕ) → x ≡ not y → f ≡ node_found l g → cond x f (Some (node_place l i)) ≡ node_found l (cond y (Some i) g)
turn l i x true f g e h = rw e
turn l i x false f g e h = rw e h

pub bad_first : (good test : ℕ → Bool) (l : Layout) (k i : ℕ) → ((h : ℕ) → h < i + k → good (node_place l h) ≡ not (test h)) → first_bad good 45 k (node_place l i) ≡ node_found l (first_from test k i)
unfolding first_bad first_from
bad_first good test l zero i h = refl
bad_first good test l (suc k) i h =
    let e : node_place l (suc i) ≡ node_place l i + 45 = omega arith in
    turn l i (good (node_place l i)) (test i) _ _ (h i (omega arith)) (subst (λ (p : ℕ). first_bad good 45 k p ≡ node_found l (first_from test k (suc i))) e (bad_first good test l k (suc i) (λ j m. h j (omega arith))))
