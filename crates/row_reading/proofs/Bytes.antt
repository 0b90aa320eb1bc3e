-- The bytes of a sheet with a row of demands in it: a demand reads as it was put, and every other byte stays. Assumes nothing.
use Prim.Native.Nat.{ℕ, zero, suc, ◌+◌, ◌*◌, ◌/◌, ◌%◌, ◌^◌, ◌≤◌, ◌<◌}
use mathlib.Core.Path.{◌≡◌, refl, sym, ◌∙◌, subst}
use mathlib.Core.Logic.{⊎_elim}
use mathlib.Core.List.{List}
use native.Mathlib.Nat.{pow-suc, eq-or-lt_of_le, le_of_suc-le-suc}
use native.Mathlib.Omega.{arith}
use lib.Dec.{T}
use lib.ListN.{length, get_or, set, length-set}
use lib.Seq.{get_or-set_same, get_or-set_other}
use lib.Ieee.{Float, nan, binary64, fits, to_bits}
use lib.Ieee.Bits.{of_bits-to_bits, to_bits-lt}
use Rattle.patterns.specs.Bytes.{little_endian, from_bytes}
use Rattle.layout.specs.Places.{node_place}
use Rattle.layout.specs.declared.places.Layout.{Layout}
use Rattle.row_sheet.specs.RowSheet.{number_put, demands_put, row_sheet}
use Rattle.row_sheet.proofs.Laws.{demands_long}
use Rattle.row_reading.specs.RowReading.{AllFit}

-- ---- a number of k bytes

-- a number of bytes that stayed
pub little_same : (s t : List ℕ) (k at : ℕ) → ((p : ℕ) → at ≤ p → p < at + k → get_or t p 0 ≡ get_or s p 0) → little_endian k t at ≡ little_endian k s at
unfolding little_endian
little_same s t zero at h = refl
little_same s t (suc k) at h =
    let e : get_or t at 0 ≡ get_or s at 0 = h at (omega arith) (omega arith) in
    let f : little_endian k t (at + 1) ≡ little_endian k s (at + 1) = little_same s t k (at + 1) (λ p a b. h p (omega arith) (omega arith)) in
    rw (e, f)

pub float_same : (s t : List ℕ) (at : ℕ) → ((p : ℕ) → at ≤ p → p < at + 8 → get_or t p 0 ≡ get_or s p 0) → from_bytes t at ≡ from_bytes s at
unfolding from_bytes
float_same s t at h = rw (little_same s t 8 at h)

-- a byte outside those put stays
number_kept : (k : ℕ) (s : List ℕ) (at number p : ℕ) → (at ≤ p → p < at + k → ⊥) → get_or (number_put k s at number) p 0 ≡ get_or s p 0
unfolding number_put
number_kept zero s at number p h = refl
number_kept (suc k) s at number p h =
    number_kept k (set s at (number % 256)) (at + 1) (number / 256) p (λ a b. h (omega arith) (omega arith))
    ∙ get_or-set_other s at p (number % 256) 0 (λ e. h (omega arith) (omega arith))

-- a number comes back from its bytes
number_back : (k : ℕ) (s : List ℕ) (at number : ℕ) → at + k ≤ length s → number < 256 ^ k → little_endian k (number_put k s at number) at ≡ number
unfolding little_endian number_put
number_back zero s at number long h = omega arith
number_back (suc k) s at number long h =
    let s' = set s at (number % 256) in
    let e : get_or (number_put k s' (at + 1) (number / 256)) at 0 ≡ number % 256 =
    number_kept k s' (at + 1) (number / 256) at (λ a b. omega arith) ∙ get_or-set_same s at (number % 256) 0 (omega arith) in
    let f : little_endian k (number_put k s' (at + 1) (number / 256)) (at + 1) ≡ number / 256 =
    number_back k s' (at + 1) (number / 256) (omega (arith, length-set s at (number % 256))) (omega (arith, pow-suc 256 k)) in
    rw (e, f) (omega arith)

float_back : (s : List ℕ) (at : ℕ) (x : Float) → T (fits binary64 x) → at + 8 ≤ length s → from_bytes (number_put 8 s at (to_bits binary64 x)) at ≡ x
unfolding from_bytes
float_back s at x fit long = rw (number_back 8 s at (to_bits binary64 x) long (omega (arith, to_bits-lt binary64 x fit))) (of_bits-to_bits binary64 x fit)

-- ---- the demands of a row

-- a byte of no demand stays
demands_kept : (i : ℕ) (s : List ℕ) (l : Layout) (table : List Float) (r p : ℕ) → ((h : ℕ) → h < i → node_place l h + 12 ≤ p → p < node_place l h + 20 → ⊥)
    → get_or (demands_put i s l table r) p 0 ≡ get_or s p 0
unfolding demands_put
demands_kept zero s l table r p h = refl
demands_kept (suc i) s l table r p h =
    number_kept 8 (demands_put i s l table r) (node_place l i + 12) (to_bits binary64 (get_or table (r * l.nodes + i) nan)) p (λ a b. h i (omega arith) a (omega arith))
    ∙ demands_kept i s l table r p (λ j m. h j (omega arith))

-- each of the first k demands reads as it was put
demands_back : (k : ℕ) (s : List ℕ) (l : Layout) (table : List Float) (r : ℕ) → AllFit table → node_place l k ≤ length s → (i : ℕ) → i < k
    → from_bytes (demands_put k s l table r) (node_place l i + 12) ≡ get_or table (r * l.nodes + i) nan
unfolding demands_put
demands_back zero s l table r fit long i h = absurd (omega arith)
demands_back (suc k) s l table r fit long i h =
    let before : List ℕ = demands_put k s l table r in
    let bits : ℕ = to_bits binary64 (get_or table (r * l.nodes + k) nan) in
    ⊎_elim
    (λ (e : i ≡ k). subst (λ (j : ℕ). from_bytes (number_put 8 before (node_place l k + 12) bits) (node_place l j + 12) ≡ get_or table (r * l.nodes + j) nan) (sym e) (float_back before (node_place l k + 12) _ (fit (r * l.nodes + k)) (omega (arith, demands_long k s l table r))))
    (λ (m : i < k). float_same before (number_put 8 before (node_place l k + 12) bits) (node_place l i + 12) (λ p a b. number_kept 8 before (node_place l k + 12) bits p (λ c d. omega arith)) ∙ demands_back k s l table r fit (omega arith) i m)
    (eq-or-lt_of_le (le_of_suc-le-suc h))

module _ (s : List ℕ) (l : Layout) (table : List Float) (r : ℕ) where
  pub row_kept : (p : ℕ) → ((h : ℕ) → h < l.nodes → node_place l h + 12 ≤ p → p < node_place l h + 20 → ⊥) → get_or (row_sheet s l table r) p 0 ≡ get_or s p 0
  unfolding row_sheet
  row_kept p h = demands_kept l.nodes s l table r p h

  pub row_back : AllFit table → node_place l l.nodes ≤ length s → (i : ℕ) → i < l.nodes → from_bytes (row_sheet s l table r) (node_place l i + 12) ≡ get_or table (r * l.nodes + i) nan
  unfolding row_sheet
  row_back fit long i h = demands_back l.nodes s l table r fit long i h
