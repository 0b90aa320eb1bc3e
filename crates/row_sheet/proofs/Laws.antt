-- One byte put, one demand put, and that the sheet stays as long as it was. Assumes nothing.
use Prim.Native.Nat.{ℕ, zero, suc, ◌+◌, ◌-◌, ◌*◌, ◌/◌, ◌%◌, ◌<◌}
use mathlib.Core.Path.{◌≡◌, refl, ap, ◌∙◌, subst}
use mathlib.Core.List.{List}
use native.Mathlib.Numerals.{add-one}
use native.Mathlib.Omega.{arith}
use lib.ListN.{length, get_or, set, length-set}
use lib.Ieee.{Float, nan, binary64, to_bits}
use Rattle.layout.specs.Places.{Laid, node_place}
use Rattle.layout.specs.declared.places.Layout.{Layout}
use Rattle.row_sheet.specs.RowSheet.{number_put, demands_put, row_sheet}

pub number_long : (k : ℕ) (s : List ℕ) (at number : ℕ) → length (number_put k s at number) ≡ length s
unfolding number_put
number_long zero s at number = refl
number_long (suc k) s at number = number_long k _ (at + 1) (number / 256) ∙ length-set s at (number % 256)

pub demands_long : (i : ℕ) (s : List ℕ) (l : Layout) (table : List Float) (r : ℕ) → length (demands_put i s l table r) ≡ length s
unfolding demands_put
demands_long zero s l table r = refl
demands_long (suc i) s l table r = number_long 8 (demands_put i s l table r) _ _ ∙ demands_long i s l table r

pub row_long : (s : List ℕ) (l : Layout) (table : List Float) (r : ℕ) → length (row_sheet s l table r) ≡ length s
unfolding row_sheet
row_long s l table r = demands_long l.nodes s l table r

pub number_none : (at number : ℕ) (s : List ℕ) → number_put (8 - 0) s (at + 0) number ≡ number_put 8 s at number
number_none at number s =
    let p : 8 - 0 ≡ 8 = omega arith in
    let q : at + 0 ≡ at = omega arith in
    rw (p, q)

-- the bytes that are left to put, one fewer
pub number_next : (k place left : ℕ) (s o : List ℕ) → k < 8 → number_put (8 - k) s (place + k) left ≡ o → number_put (8 - (k + 1)) (set s (place + k) (left % 256)) (place + (k + 1)) (left / 256) ≡ o
unfolding number_put
number_next k place left s o h e =
    let p : 8 - k ≡ suc (8 - (k + 1)) = omega arith in
    let q : place + (k + 1) ≡ place + k + 1 = omega arith in
    rw q (subst (λ (j : ℕ). number_put j s (place + k) left ≡ o) p e)

pub number_all : (k at left : ℕ) (s o : List ℕ) → k ≡ 8 → number_put (8 - k) s (at + k) left ≡ o → s ≡ o
unfolding number_put
number_all k at left s o h e = let p : 8 - k ≡ 0 = omega arith in rw p at e

pub demands_none : (s : List ℕ) (l : Layout) (table : List Float) (r : ℕ) → s ≡ demands_put 0 s l table r
unfolding demands_put
demands_none s l table r = refl

pub demands_next : (i place number : ℕ) (s₀ s s' : List ℕ) (l : Layout) (table : List Float) (r : ℕ) → s ≡ demands_put i s₀ l table r → place ≡ node_place l i
    → number ≡ to_bits binary64 (get_or table (r * l.nodes + i) nan) → s' ≡ number_put 8 s (place + 12) number → s' ≡ demands_put (i + 1) s₀ l table r
unfolding demands_put
demands_next i place number s₀ s s' l table r e ea en es = rw (es, add-one i, ← e, ea, en)

pub demands_all : (i : ℕ) (s₀ s : List ℕ) (l : Layout) (table : List Float) (r : ℕ) → i ≡ l.nodes → s ≡ demands_put i s₀ l table r → s ≡ row_sheet s₀ l table r
unfolding row_sheet
demands_all i s₀ s l table r h e = e ∙ ap (λ (k : ℕ). demands_put k s₀ l table r) h

-- a sheet of the same length is laid out too
pub laid_long : (l : Layout) (s s' : List ℕ) → length s' ≡ length s → Laid l s → Laid l s'
laid_long l s s' e laid = record { options = laid.options; nodes = omega (arith, laid.nodes); links = omega (arith, laid.links); stride = laid.stride }
