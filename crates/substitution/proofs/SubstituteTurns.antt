-- One turn of each loop of the substitutions, as a law of their definitions. Assumes nothing.
use Prim.Native.Nat.{ℕ, zero, suc, ◌+◌, ◌-◌, ◌≤◌, ◌<◌}
use mathlib.Core.Path.{◌≡◌, refl, sym, ap, ◌∙◌, subst}
use mathlib.Core.Bool.{Bool, true, false}
use mathlib.Core.List.{List}
use native.Mathlib.Omega.{arith}
use native.Mathlib.Numerals.{add-one}
use borrow.Author.Tests.{eqb-true, eqb-false, not-false}
use lib.Dec.{T, eqb}
use lib.ListN.{length, get_or, set, length-set}
use lib.Seq.{get_or-set_same, get_or-set_other}
use lib.Ieee.{Float, nan, binary64, of_bits, sub, mul, div, ne}
use lib.Ieee.Fits.{mul-fits}
use lib.Ieee.Scale.{finite}
use Rattle.zeros.specs.Zeros.{Firm}
use Rattle.zeros.proofs.Zeros.{zero_first_skipped, sub_firm}
use Rattle.linear.specs.Matrix.{at, fill, rows}
use Rattle.substitution.specs.Substitution.{before, forward, after, back, solved, less_term}
use Rattle.linear.proofs.Filling.{fill_cong, fill_before, fill_after, fill_at, fill_fill, fill_same, fill_next, fill_first}

-- the terms after r, counted by the next unknown k
pub after_none : (l x : List Float) (r : ℕ) → get_or x r nan ≡ after l x r (r + 1 - suc r)
unfolding after
after_none l x r =
    let p : r + 1 - suc r ≡ 0 = omega arith in
    rw p

pub after_next : (l x : List Float) (r k : ℕ) (s : Float) → r < k → s ≡ after l x r (k - suc r)
    → sub binary64 s (mul binary64 (at l k r) (get_or x k nan)) ≡ after l x r (k + 1 - suc r)
unfolding after
after_next l x r k s h e =
    let p : k + 1 - suc r ≡ suc (k - suc r) = omega arith in
    let q : r + suc (k - suc r) ≡ k = omega arith in
    rw (p, q, e)

-- a term whose factor is zero is left out, or taken
pub after_skip : (l x : List Float) (r k : ℕ) (s : Float) → r < k → Firm s → T (finite (get_or x k nan)) → ne (at l k r) (of_bits binary64 0) ≡ false → s ≡ after l x r (k - suc r) → s ≡ after l x r (k + 1 - suc r)
unfolding ne
after_skip l x r k s h f g z e = sym (zero_first_skipped s (at l k r) (get_or x k nan) f g (not-false _ z)) ∙ after_next l x r k s h e

pub term_firm : (s f y : Float) → Firm s → Firm (sub binary64 s (mul binary64 f y))
term_firm s f y h = sub_firm s (mul binary64 f y) h (mul-fits binary64 f y)

-- one unknown more is finite
pub finite_more : (n r : ℕ) (x : List Float) (y : Float) → r < length x → ((k : ℕ) → r < k → k < n → T (finite (get_or x k nan))) → T (finite y)
    → (k : ℕ) → r ≤ k → k < n → T (finite (get_or (set x r y) k nan))
finite_more n r x y l h t k u v = go (eqb k r) refl
  where
    go : (b : Bool) → eqb k r ≡ b → T (finite (get_or (set x r y) k nan))
    go true e = subst (λ (j : ℕ). T (finite (get_or (set x r y) j nan))) (sym (eqb-true k r e)) (subst (λ (z : Float). T (finite z)) (sym (get_or-set_same x r y nan l)) t)
    go false e =
        let other : k ≡ r → ⊥ = eqb-false k r e in
        subst (λ (z : Float). T (finite z)) (sym (get_or-set_other x r k y nan (omega arith))) (h k (omega arith) v)

-- one row more of `subtract_term`
pub term_none : (l : List Float) (k : ℕ) (x : List Float) → x ≡ less_term l k (k + 1 - suc k) x
unfolding less_term fill
term_none l k x =
    let p : k + 1 - suc k ≡ 0 = omega arith in
    rw p

pub term_next : (l : List Float) (k r : ℕ) (y : Float) (x₀ x : List Float) → k < r → y ≡ get_or x₀ k nan → x ≡ less_term l k (r - suc k) x₀
    → set x r (sub binary64 (get_or x r nan) (mul binary64 (at l r k) y)) ≡ less_term l k (r + 1 - suc k) x₀
unfolding less_term
term_next l k r y x₀ x h g e =
    let F : ℕ → Float = λ j. sub binary64 (get_or x₀ (suc k + j) nan) (mul binary64 (at l (suc k + j) k) (get_or x₀ k nan)) in
    let here : get_or x r nan ≡ get_or x₀ r nan = ap (λ (z : List Float). get_or z r nan) e ∙ fill_after (suc k) F (r - suc k) x₀ r (omega arith) in
    let row : suc k + (r - suc k) ≡ r = omega arith in
    let more : r + 1 - suc k ≡ suc (r - suc k) = omega arith in
    rw more (fill_next (suc k) F (r - suc k) r x₀ x _ e (omega arith) (rw (here, g, row)))

-- forward, with k unknowns known: they stand in x, and each row after them is less their terms
unfoldable pub known : List Float → ℕ → ℕ → List Float → List Float
known l n k x = let y = forward l k x in rows k (λ r. before l y r k) (n - k) y

pub known_none : (l : List Float) (n : ℕ) (x : List Float) → x ≡ known l n 0 x
unfolding known forward before
known_none l n x = sym (fill_same 0 _ (n - 0) x (λ j. refl))

pub known_all : (l : List Float) (n k : ℕ) (x : List Float) → k ≡ n → known l n k x ≡ forward l n x
unfolding known fill
known_all l n k x h =
    let p : n - n ≡ 0 = omega arith in
    rw (h, p)

-- unknown k is in none of the terms before it, nor the right side of a later row
before_set : (l x : List Float) (k r i : ℕ) (v : Float) → i ≤ k → k < r → before l (set x k v) r i ≡ before l x r i
unfolding before
before_set l x k r zero v h g = get_or-set_other x k r v nan (omega arith)
before_set l x k r (suc i) v h g = rw (before_set l x k r i v (omega arith) g, get_or-set_other x k i v nan (omega arith))

pub length_forward : (l : List Float) (k : ℕ) (x : List Float) → length (forward l k x) ≡ length x
unfolding forward
length_forward l zero x = refl
length_forward l (suc k) x = length-set (forward l k x) k _ ∙ length_forward l k x

pub known_next : (l : List Float) (n k : ℕ) (x₀ x z : List Float) → k < n → n ≤ length x₀ → x ≡ known l n k x₀
    → z ≡ less_term l k (n - suc k) (set x k (div binary64 (get_or x k nan) (at l k k))) → z ≡ known l n (k + 1) x₀
unfolding known forward before less_term
known_next l n k x₀ x z hk hn e s =
    let y = forward l k x₀ in
    let m = n - suc k in
    let f : ℕ → Float = λ j. before l y (k + j) k in
    let v = div binary64 (before l y k k) (at l k k) in
    let y' = set y k v in
    let w = set x k (div binary64 (get_or x k nan) (at l k k)) in
    let h : ℕ → Float = λ j. before l y' (suc k + j) (suc k) in
    let more : n - k ≡ suc m = omega arith in
    let x-is : x ≡ fill k f (suc m) y = e ∙ rw more in
    let k+0 : k + 0 ≡ k = omega arith in
    let long : n ≤ length y = omega (arith, length_forward l k x₀) in
    let first : get_or x k nan ≡ before l y k k = ap (λ (a : List Float). get_or a k nan) x-is ∙ fill_at k f (suc m) y k 0 (omega arith) (omega arith) (omega arith) ∙ rw k+0 in
    let w-is : w ≡ fill (suc k) (λ j. f (suc j)) m y' = rw (first, x-is) (fill_first k f m y v) in
    let old : get_or w k nan ≡ get_or y' k nan = ap (λ (a : List Float). get_or a k nan) w-is ∙ fill_before (suc k) (λ j. f (suc j)) m y' k (omega arith) in
    let here : (j : ℕ) → j < m → get_or w (suc k + j) nan ≡ before l y' (suc k + j) k = λ j q.
    let t : k + suc j ≡ suc k + j = omega arith in
    ap (λ (a : List Float). get_or a (suc k + j) nan) w-is ∙ fill_at (suc k) (λ j. f (suc j)) m y' (suc k + j) j refl q (omega (arith, length-set y k v)) ∙ rw t (sym (before_set l y k (suc k + j) k v (omega arith) (omega arith))) in
    s
    ∙ fill_cong (suc k) _ h m w (λ j q. rw (here j q, old))
    ∙ ap (λ (a : List Float). fill (suc k) h m a) w-is
    ∙ fill_fill (suc k) (λ j. f (suc j)) h m y'
    ∙ rw add-one

-- one unknown more of back substitution
pub back_next : (l x : List Float) (n r : ℕ) (s : Float) → 0 < r → s ≡ after l x (r - 1) (n - suc (r - 1))
    → back l n (r - 1) (set x (r - 1) (div binary64 s (at l (r - 1) (r - 1)))) ≡ back l n r x
unfolding back
back_next l x n r s h f =
    let p : r ≡ suc (r - 1) = omega arith in
    rw f (ap (λ (m : ℕ). back l n m x) (sym p))

pub solved_end : (l x y z : List Float) (n m r : ℕ) → m ≡ n → r ≡ 0 → y ≡ known l n m x → back l n r z ≡ back l n n y → z ≡ solved l n x
unfolding back solved
solved_end l x y z n m r h k e f = rw k at f ∙ rw (e, known_all l n m x h)
