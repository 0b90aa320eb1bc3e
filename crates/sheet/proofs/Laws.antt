-- Laws of the sheet's definitions, over plain variables. Assumes nothing.
use mathlib.Core.Path.{◌≡◌, refl, sym, ap, ◌∙◌, subst}
use mathlib.Core.Bool.{Bool, true, false, not, cond, ◌&&◌}
use mathlib.Core.List.{List}
use Prim.Native.Nat.{ℕ, zero, suc, ◌+◌, ◌-◌, ◌*◌, ◌≤◌, ◌<◌}
use native.Mathlib.Nat.{mul-suc, mul-zero}
use native.Mathlib.Omega.{arith}
use lib.Dec.{T, eqb, leb}
use lib.ListN.{length, get_or}
use borrow.Author.Tests.{le-leb, lt-leb, leb-true, not-true, not-false}
use Rattle.sheet.specs.Scan.{readable, records_from}
use Rattle.sheet.specs.Read.{first_bad}
use Rattle.std.specs.Prelude.{None, Option, Some}

-- ---- a record's test

pub too_short_lem : (m n size : ℕ) (s : List ℕ) (at : ℕ) → length s < at + size → readable m n size s at ≡ false
unfolding readable
too_short_lem m n size s at h = simp (lt-leb (at + size) (length s) h)

pub long_enough : (m n size : ℕ) (s : List ℕ) (at : ℕ) → at + size ≤ length s → readable m n size s at ≡ (eqb (get_or s at 0) m && eqb (get_or s (at + 1) 0) n)
unfolding readable
long_enough m n size s at h = simp (le-leb (at + size) (length s) h)

pub and_left : (a b : Bool) → (a && b) ≡ true → a ≡ true
and_left true b h = refl
and_left false b h = h

pub and_right : (a b : Bool) → (a && b) ≡ true → b ≡ true
and_right true b h = h
and_right false b h = absurd (subst T (sym h) tt)

pub fits : (m n size : ℕ) (s : List ℕ) (at : ℕ) → readable m n size s at ≡ true → at + size ≤ length s
unfolding readable
fits m n size s at h = leb-true (at + size) (length s) (and_left (leb (at + size) (length s)) (eqb (get_or s at 0) m && eqb (get_or s (at + 1) 0) n) h)

-- ---- a run of records

-- one more turn: k turns are left
pub run_on : (m n size k : ℕ) (s : List ℕ) (at : ℕ) → readable m n size s at ≡ true → 0 < k → records_from m n size k s at ≡ suc (records_from m n size (k - 1) s (at + size))
unfolding records_from
run_on m n size zero s at h l = absurd (omega arith)
run_on m n size (suc k) s at h l =
    let e : suc k - 1 ≡ k = omega arith in
    rw (h, e)

pub run_end : (m n size k : ℕ) (s : List ℕ) (at : ℕ) → readable m n size s at ≡ false → records_from m n size k s at ≡ 0
unfolding records_from
run_end m n size zero s at h = refl
run_end m n size (suc k) s at h = rw h

-- a run stays within the sheet
pub run_fits : (m n size k : ℕ) (s : List ℕ) (at : ℕ) → at ≤ length s → at + size * records_from m n size k s at ≤ length s
unfolding records_from
run_fits m n size zero s at h = omega (arith, mul-zero size)
run_fits m n size (suc k) s at h = go (readable m n size s at) refl (λ l. run_fits m n size k s (at + size) l)
  where
    go : (b : Bool) → readable m n size s at ≡ b → (at + size ≤ length s → at + size + size * records_from m n size k s (at + size) ≤ length s) → at + size * cond {A = ℕ} b (suc (records_from m n size k s (at + size))) 0 ≤ length s
    go true e f = omega (arith, f (fits m n size s at e), mul-suc size (records_from m n size k s (at + size)))
    go false e f = omega (arith, mul-zero size)

-- one more turn of a run's count: n are counted
pub run_turn : (m k size n : ℕ) (s : List ℕ) (at total : ℕ) → n + records_from m k size (length s - n) s at ≡ total → readable m k size s at ≡ true → n < length s → n + 1 + records_from m k size (length s - (n + 1)) s (at + size) ≡ total
run_turn m k size n s at total e h l =
    let d : length s - n - 1 ≡ length s - (n + 1) = omega arith in
    omega (arith, run_on m k size (length s - n) s at h (omega arith), ap (λ (j : ℕ). records_from m k size j s (at + size)) d)

-- ---- the first record that is not good

pub first_good : (good : ℕ → Bool) (size k at : ℕ) → good at ≡ true → 0 < k → first_bad good size k at ≡ first_bad good size (k - 1) (at + size)
unfolding first_bad
first_good good size zero at h l = absurd (omega arith)
first_good good size (suc k) at h l =
    let e : suc k - 1 ≡ k = omega arith in
    rw (h, e)

pub first_bad_lem : (good : ℕ → Bool) (size k at : ℕ) → good at ≡ false → 0 < k → first_bad good size k at ≡ Some at
unfolding first_bad
first_bad_lem good size zero at h l = absurd (omega arith)
first_bad_lem good size (suc k) at h l = rw h

pub first_none : (good : ℕ → Bool) (size at : ℕ) → first_bad good size 0 at ≡ None
unfolding first_bad
first_none good size at = refl

-- a search through n records, of which i are passed: `at` is where record i stands, as r, and `flag` is what its test said
module _ (good : ℕ → Bool) (size n i at : ℕ) (whole : Option ℕ) (left : first_bad good size (n - i) at ≡ whole) where
  pub search_end : n ≤ i → None ≡ whole
  search_end h = let e : n - i ≡ 0 = omega arith in sym (first_none good size at) ∙ subst (λ (k : ℕ). first_bad good size k at ≡ whole) e left

  module _ (r : ℕ) (flag : Bool) (place : r ≡ at) (test : flag ≡ good r) (more : i < n) where
    pub search-bad : not flag ≡ true → Some r ≡ whole
    search-bad h = ap Some place ∙ sym (first_bad_lem good size (n - i) at (ap good (sym place) ∙ sym test ∙ not-true flag h) (omega arith)) ∙ left

    pub search-on : (next : ℕ) → not flag ≡ false → next ≡ at + size → first_bad good size (n - (i + 1)) next ≡ whole
    search-on next h q =
        let d : n - i - 1 ≡ n - (i + 1) = omega arith in
        rw (q, ← d) (sym (first_good good size (n - i) at (ap good (sym place) ∙ sym test ∙ not-false flag h) (omega arith)) ∙ left)

-- where none is found, each is good
pub all_good : (good : ℕ → Bool) (size k at : ℕ) → first_bad good size k at ≡ None → (i : ℕ) → i < k → good (at + size * i) ≡ true
unfolding first_bad
all_good good size zero at e i l = absurd (omega arith)
all_good good size (suc k) at e i l = go (good at) refl e i l (λ f j m. all_good good size k (at + size) f j m)
  where
    go : (b : Bool) → good at ≡ b → cond b (first_bad good size k (at + size)) (Some at) ≡ None → (i : ℕ) → i < suc k → (first_bad good size k (at + size) ≡ None → (j : ℕ) → j < k → good (at + size + size * j) ≡ true) → good (at + size * i) ≡ true
    go false g f j m rest = absurd (let z : ◌≡◌ {A = ℕ} 0 1 = cc in omega arith)
    go true g f zero m rest = let q : at + size * 0 ≡ at = omega (arith, mul-zero size) in rw q g
    go true g f (suc j) m rest =
        let q : at + size * suc j ≡ at + size + size * j = omega (arith, mul-suc size j) in
        rw q (rest f j (omega arith))
