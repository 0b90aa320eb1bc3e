-- One turn of the loop, what the steps keep, and that what a cleared column held does not matter. Assumes nothing.
use mathlib.Core.Path.{◌≡◌, refl, sym, ap, ◌∙◌}
use mathlib.Core.Logic.{⊎_elim}
use mathlib.Core.List.{List, [], ◌∷◌, ◌++◌}
use Prim.Native.Nat.{ℕ, zero, suc, ◌+◌, ◌≤◌, ◌<◌}
use native.Mathlib.Nat.{eq-or-lt_of_le, le_of_suc-le-suc, not-suc-le-zero}
use native.Mathlib.Numerals.{add-one}
use native.Mathlib.Omega.{arith}
use lib.ListN.{length, get_or, set, take, drop, replicate, length-set, length-replicate, get_or-replicate}
use lib.Seq.{get_or-set_same, get_or-set_other}
use lib.Ieee.{Float, nan, binary64, of_bits}
use Rattle.columns.specs.Columns.{cleared, add_to, take_from, zeros, copied}

pub cleared_none : (e : List Float) → e ≡ cleared 0 e
unfolding cleared
cleared_none e = refl

pub cleared_next : (i : ℕ) (e₀ e : List Float) → e ≡ cleared i e₀ → set e i (of_bits binary64 0) ≡ cleared (i + 1) e₀
unfolding cleared
cleared_next i e₀ e h = rw (add-one i, h)

-- the first n written over with zeros, of which one more is written
filled_suc : (n : ℕ) (z : Float) (e : List Float) → n < length e → set (replicate n z ++ drop n e) n z ≡ replicate (suc n) z ++ drop (suc n) e
filled_suc n z [] l = absurd (not-suc-le-zero l)
filled_suc zero z (x ∷ e) l = refl
filled_suc (suc n) z (x ∷ e) l = ap (λ (t : List Float). z ∷ t) (filled_suc n z e (le_of_suc-le-suc l))

pub cleared_is : (n : ℕ) (e : List Float) → n ≤ length e → replicate n (of_bits binary64 0) ++ drop n e ≡ cleared n e
unfolding cleared
cleared_is zero e h = refl
cleared_is (suc n) e h = sym (filled_suc n (of_bits binary64 0) e h) ∙ ap (λ (t : List Float). set t n (of_bits binary64 0)) (cleared_is n e (omega arith))

pub add_long : (e : List Float) (i : ℕ) (x : Float) → length (add_to e i x) ≡ length e
unfolding add_to
add_long e i x = length-set e i _

pub take_long : (e : List Float) (i : ℕ) (x : Float) → length (take_from e i x) ≡ length e
unfolding take_from
take_long e i x = length-set e i _

pub cleared_long : (i : ℕ) (e : List Float) → length (cleared i e) ≡ length e
unfolding cleared
cleared_long zero e = refl
cleared_long (suc i) e = length-set (cleared i e) i (of_bits binary64 0) ∙ cleared_long i e

pub same_entries : (a b : List Float) → length a ≡ length b → ((j : ℕ) → j < length a → get_or a j nan ≡ get_or b j nan) → a ≡ b
same_entries [] [] h f = refl
same_entries [] (y ∷ b) h f = absurd (omega arith)
same_entries (x ∷ a) [] h f = absurd (omega arith)
same_entries (x ∷ a) (y ∷ b) h f =
    let e : x ≡ y = f 0 (omega arith) in
    let r : a ≡ b = same_entries a b (omega arith) (λ j l. f (suc j) (omega arith)) in
    rw (e, r)

pub cleared_at : (n : ℕ) (e : List Float) → n ≤ length e → (j : ℕ) → j < n → get_or (cleared n e) j nan ≡ of_bits binary64 0
unfolding cleared
cleared_at zero e h j l = absurd (omega arith)
cleared_at (suc n) e h j l =
    ⊎_elim
    (λ (q : j ≡ n). ap (λ (k : ℕ). get_or (set (cleared n e) n (of_bits binary64 0)) k nan) q ∙ get_or-set_same (cleared n e) n (of_bits binary64 0) nan (omega (arith, cleared_long n e)))
    (λ (q : j < n). get_or-set_other (cleared n e) n j (of_bits binary64 0) nan (λ z. omega arith) ∙ cleared_at n e (omega arith) j q)
    (eq-or-lt_of_le (le_of_suc-le-suc l))

pub cleared_same : (n : ℕ) (a b : List Float) → length a ≡ n → length b ≡ n → cleared n a ≡ cleared n b
cleared_same n a b h k =
    same_entries (cleared n a) (cleared n b) (omega (arith, cleared_long n a, cleared_long n b))
    (λ j l. let m : j < n = omega (arith, cleared_long n a) in cleared_at n a (omega arith) j m ∙ sym (cleared_at n b (omega arith) j m))

pub zeros_long : (n : ℕ) → length (zeros n) ≡ n
unfolding zeros
zeros_long n = length-replicate n (of_bits binary64 0)

pub cleared_zeros : (n : ℕ) (e : List Float) → length e ≡ n → cleared n e ≡ zeros n
unfolding zeros
cleared_zeros n e h =
    same_entries (cleared n e) (zeros n) (omega (arith, cleared_long n e, zeros_long n))
    (λ j l. let m : j < n = omega (arith, cleared_long n e) in cleared_at n e (omega arith) j m ∙ sym (get_or-replicate n j (of_bits binary64 0) nan m))

-- one element more is copied, whatever the elements
copy_suc : {A : Type 0} (n : ℕ) (z : A) (s d : List A) → n < length s → n < length d → set (take n s ++ drop n d) n (get_or s n z) ≡ take (suc n) s ++ drop (suc n) d
copy_suc n z [] d l m = absurd (not-suc-le-zero l)
copy_suc n z (x ∷ s) [] l m = absurd (not-suc-le-zero m)
copy_suc zero z (x ∷ s) (y ∷ d) l m = refl
copy_suc (suc n) z (x ∷ s) (y ∷ d) l m = ap (λ (t : List _). x ∷ t) (copy_suc n z s d (le_of_suc-le-suc l) (le_of_suc-le-suc m))

pub copy_next : {A : Type 0} (n : ℕ) (z : A) (s d a : List A) → n < length s → n < length d → a ≡ copied n s d → set a n (get_or s n z) ≡ copied (n + 1) s d
unfolding copied
copy_next n z s d a l m e = rw (e, add-one) (copy_suc n z s d l m)
