-- What two sheets have in common whose bytes are the same but for the demands: marks, counts, and every other field. Assumes nothing.
use Prim.Native.Nat.{ℕ, zero, suc, ◌+◌, ◌*◌, ◌≤◌, ◌<◌}
use mathlib.Core.Path.{◌≡◌, refl, subst}
use mathlib.Core.Bool.{Bool, cond}
use mathlib.Core.List.{List}
use native.Mathlib.Nat.{mul-suc, mul-zero}
use native.Mathlib.Omega.{arith}
use lib.ListN.{length, get_or}
use Rattle.patterns.specs.Bytes.{from_bytes}
use Rattle.layout.specs.declared.places.Layout.{Layout}
use Rattle.records.specs.Records.{pair_at}
use Rattle.nodes.specs.Nodes.{in_service}
use Rattle.fields.specs.Fields.{all_within, options_good, pressures_good, link_codes, link_numbers, link_good}
use Rattle.fields.specs.declared.fields.Bounds.{Bounds}
use Rattle.ends.specs.Ends.{ends_good}
use Rattle.sheet.specs.Scan.{readable, records_from}
use Rattle.sheet.specs.Read.{first_bad}
use Rattle.row_reading.proofs.Bytes.{little_same, float_same}
use Rattle.std.specs.Prelude.{Option, Some}

-- ---- searches whose tests say the same

counted : (b b' : Bool) (n n' : ℕ) → b ≡ b' → n ≡ n' → cond {A = ℕ} b (suc n) 0 ≡ cond {A = ℕ} b' (suc n') 0
counted b b' n n' e f = rw (e, f)

pub served : (b b' : Bool) (n n' : ℕ) → b ≡ b' → n ≡ n' → cond {A = ℕ} b (suc n) n ≡ cond {A = ℕ} b' (suc n') n'
served b b' n n' e f = rw (e, f)

searched : (b b' : Bool) (f f' : Option ℕ) (at : ℕ) → b ≡ b' → f ≡ f' → cond b f (Some at) ≡ cond b' f' (Some at)
searched b b' f f' at e g = rw (e, g)

pub first_same : (good good' : ℕ → Bool) (size k at : ℕ) → ((p : ℕ) → at ≤ p → good' p ≡ good p) → first_bad good' size k at ≡ first_bad good size k at
unfolding first_bad
first_same good good' size zero at h = refl
first_same good good' size (suc k) at h = searched (good' at) (good at) _ _ at (h at (omega arith)) (first_same good good' size k (at + size) (λ p m. h p (omega arith)))

-- ---- the fields of two sheets

module _ (s t : List ℕ) where
  pair_same : (at : ℕ) → ((p : ℕ) → at ≤ p → p < at + 2 → get_or t p 0 ≡ get_or s p 0) → pair_at t at ≡ pair_at s at
  unfolding pair_at
  pair_same at h = little_same s t 2 at h

  all_same : (b : Bounds) (k at : ℕ) → ((p : ℕ) → at ≤ p → p < at + 8 * k → get_or t p 0 ≡ get_or s p 0) → all_within b k t at ≡ all_within b k s at
  unfolding all_within
  all_same b zero at h = refl
  all_same b (suc k) at h =
      let e : all_within b k t at ≡ all_within b k s at = all_same b k at (λ p a c. h p a (omega arith)) in
      let f : from_bytes t (at + 8 * k) ≡ from_bytes s (at + 8 * k) = float_same s t (at + 8 * k) (λ p a c. h p (omega arith) (omega arith)) in
      rw (e, f)

  pub options_same : (b : Bounds) → ((p : ℕ) → p < 29 → get_or t p 0 ≡ get_or s p 0) → options_good b t ≡ options_good b s
  unfolding options_good
  options_same b h =
      rw
      (all_same b 3 2 (λ p a c. h p (omega arith)), float_same s t 2 (λ p a c. h p (omega arith)), float_same s t 10 (λ p a c. h p (omega arith)), float_same s t 18 (λ p a c. h p (omega arith)), pair_same 26 (λ p a c. h p (omega arith)), h 28 (omega arith))

  pub pressures_same : (b : Bounds) → ((p : ℕ) → p < 47 → get_or t p 0 ≡ get_or s p 0) → pressures_good b t ≡ pressures_good b s
  unfolding pressures_good
  pressures_same b h =
      rw (all_same b 2 31 (λ p a c. h p (omega arith)), float_same s t 31 (λ p a c. h p (omega arith)), float_same s t 39 (λ p a c. h p (omega arith)))

  -- the record of a link at `at`
  module _ (at : ℕ) (h : (p : ℕ) → at ≤ p → p < at + 49 → get_or t p 0 ≡ get_or s p 0) where
    kind-same : get_or t (at + 2) 0 ≡ get_or s (at + 2) 0
    kind-same = h (at + 2) (omega arith) (omega arith)

    start-same : pair_at t (at + 5) ≡ pair_at s (at + 5)
    start-same = pair_same (at + 5) (λ p a c. h p (omega arith) (omega arith))

    end_same : pair_at t (at + 7) ≡ pair_at s (at + 7)
    end_same = pair_same (at + 7) (λ p a c. h p (omega arith) (omega arith))

    codes_same : (n : ℕ) → link_codes n t at ≡ link_codes n s at
    unfolding link_codes
    codes_same n = rw (kind-same, h (at + 3) (omega arith) (omega arith), h (at + 4) (omega arith) (omega arith), start-same, end_same)

    numbers-same : (b : Bounds) → link_numbers b t at ≡ link_numbers b s at
    unfolding link_numbers
    numbers-same b =
        rw
        (kind-same, all_same b 5 (at + 9) (λ p a c. h p (omega arith) (omega arith)), float_same s t (at + 17) (λ p a c. h p (omega arith) (omega arith)), float_same s t (at + 33) (λ p a c. h p (omega arith) (omega arith)), float_same s t (at + 25) (λ p a c. h p (omega arith) (omega arith)))

    pub link-same : (b : Bounds) (n : ℕ) → link_good b n t at ≡ link_good b n s at
    unfolding link_good
    link-same b n = rw (codes_same n, numbers-same b)

    pub ends_same : (l : Layout) → ((i : ℕ) → in_service t l i ≡ in_service s l i) → ends_good l t at ≡ ends_good l s at
    unfolding ends_good
    ends_same l serves = rw (kind-same, start-same, end_same, serves (pair_at s (at + 7)), serves (pair_at s (at + 5)))

  -- a mark, and a run of records, in sheets of the same length
  module _ (long : length t ≡ length s) where
    pub readable-same : (first second size at : ℕ) → get_or t at 0 ≡ get_or s at 0 → get_or t (at + 1) 0 ≡ get_or s (at + 1) 0 → readable first second size t at ≡ readable first second size s at
    unfolding readable
    readable-same first second size at e f = rw (long, e, f)

    pub records-same : (first second size k at : ℕ) → ((j : ℕ) → get_or t (at + size * j) 0 ≡ get_or s (at + size * j) 0) → ((j : ℕ) → get_or t (at + size * j + 1) 0 ≡ get_or s (at + size * j + 1) 0)
        → records_from first second size k t at ≡ records_from first second size k s at
    unfolding records_from
    records-same first second size zero at g h = refl
    records-same first second size (suc k) at g h =
        let z : at + size * 0 ≡ at = omega (arith, mul-zero size) in
        counted (readable first second size t at) (readable first second size s at) _ _
        (readable-same first second size at (subst (λ (p : ℕ). get_or t p 0 ≡ get_or s p 0) z (g 0)) (subst (λ (p : ℕ). get_or t (p + 1) 0 ≡ get_or s (p + 1) 0) z (h 0)))
        (records-same first second size k (at + size)
        (λ j. let q : at + size * suc j ≡ at + size + size * j = omega (arith, mul-suc size j) in subst (λ (p : ℕ). get_or t p 0 ≡ get_or s p 0) q (g (suc j)))
        (λ j. let q : at + size * suc j ≡ at + size + size * j = omega (arith, mul-suc size j) in subst (λ (p : ℕ). get_or t (p + 1) 0 ≡ get_or s (p + 1) 0) q (h (suc j))))

-- ---- sheets that are the same but for the demands of n nodes from `start` on

module _ (s t : List ℕ) (start n : ℕ) (kept : (p : ℕ) → ((i : ℕ) → i < n → start + 45 * i + 12 ≤ p → p < start + 45 * i + 20 → ⊥) → get_or t p 0 ≡ get_or s p 0) where
  -- before the first node's demand, in a node before and behind its demand, and behind the nodes
  pub same_before : (p : ℕ) → p < start + 12 → get_or t p 0 ≡ get_or s p 0
  same_before p h = kept p (λ i m a b. omega arith)

  pub same_low : (i d : ℕ) → d < 12 → get_or t (start + 45 * i + d) 0 ≡ get_or s (start + 45 * i + d) 0
  same_low i d h = kept (start + 45 * i + d) (λ j m a b. omega arith)

  pub same_high : (i p : ℕ) → start + 45 * i + 20 ≤ p → p < start + 45 * i + 45 → get_or t p 0 ≡ get_or s p 0
  same_high i p g h = kept p (λ j m a b. omega arith)

  pub same_behind : (p : ℕ) → start + 45 * n ≤ p → get_or t p 0 ≡ get_or s p 0
  same_behind p h = kept p (λ i m a b. omega arith)

  -- the marks of the nodes
  pub mark_same : (j : ℕ) → get_or t (start + 45 * j) 0 ≡ get_or s (start + 45 * j) 0
  mark_same j = kept (start + 45 * j) (λ i m a b. omega arith)
