-- Signs of f64: by a comparison with 0, and by the pattern. Assumes nothing.
use mathlib.Core.Path.{◌≡◌, refl, sym, ◌∙◌, subst}
use mathlib.Core.Logic.{⊎_elim}
use mathlib.Core.Bool.{Bool, true, false, not, ◌&&◌, ◌||◌, beq}
use Prim.Native.Nat.{ℕ, zero, suc, ◌+◌, ◌*◌, ◌^◌, ◌≤◌, ◌<◌}
use native.Mathlib.Nat.{zero-mul, not-suc-le-zero, lt_irrefl, mul-pos, zero-lt-suc, eq-or-lt_of_le}
use native.Mathlib.Omega.{arith}
use lib.Dec.{T, eqb, ltb}
use lib.IntN.{ℤ, pos}
use lib.Ieee.{Float, nan, inf, fin, binary64, lt, eq, le, neg, is_nan, fits, to_bits, up, down}
use lib.Ieee.Bits.{to_bits-lt}
use lib.Ieee.Fits.{neg-fits, up_pos}
use lib.Ieee.Back.{whole_unique}
use borrow.Author.Tests.{ltb-true, ltb-false, eq-eqb, eqb-true, lt-ltb, le-ltb, ne_eqb}
use Rattle.float.specs.Sign.{abs_of, signum_of}
use Rattle.float.specs.Order.{wild_of}

clash : {X : Type 0} → false ≡ true → X
clash h = absurd (subst T (sym h) tt)

abbrev pub nil : Float
nil = fin false 0 (pos 0)

pub below_zero : (x : Float) → lt x nil ≡ true → neg x ≡ abs_of x
unfolding lt neg abs_of
below_zero nan h = clash h
below_zero (inf true) h = refl
below_zero (inf false) h = clash h
below_zero (fin true m e) h = refl
below_zero (fin false m e) h = absurd (not-suc-le-zero (subst (λ (k : ℕ). m * up e * 1 < k) (zero-mul (down e)) (ltb-true _ _ h)))

-- a zero that fits is written in one way
one_zero : (e : ℤ) → T (fits binary64 (fin false 0 e)) → fin false 0 e ≡ nil
one_zero e t = whole_unique binary64 (fin false 0 e) nil false 0 t (unfold fits in tt) (refl, simp zero-mul) (refl, refl)

both_true : (a b : Bool) → (a && b) ≡ true → a ≡ true
both_true true b h = refl
both_true false b h = h

pub zero_is : (x : Float) → T (fits binary64 x) → eq x nil ≡ true → nil ≡ abs_of x
unfolding eq abs_of
zero_is nan t h = clash h
zero_is (inf s) t h = clash h
zero_is (fin s zero e) t h = sym (one_zero e (unfold fits in t))
zero_is (fin s (suc m) e) t h =
    let a = suc m * up e * 1 in
    let z : a ≡ 0 * down e = eqb-true a (0 * down e) (both_true (eqb a (0 * down e)) (beq s false || eqb a 0) h) in
    absurd (lt_irrefl 0 (subst (λ (k : ℕ). 0 < k) (z ∙ zero-mul (down e)) (mul-pos (mul-pos (zero-lt-suc m) (up_pos e)) (zero-lt-suc 0))))

pub other : (x : Float) → lt x nil ≡ false → eq x nil ≡ false → x ≡ abs_of x
unfolding lt eq abs_of
other nan h k = refl
other (inf true) h k = clash (sym h)
other (inf false) h k = refl
other (fin false m e) h k = refl
other (fin true m e) h k =
    let a = m * up e * 1 in
    let b = 0 * down e in
    let z : a + b ≤ 0 = ltb-false 0 (a + b) h in
    clash (sym (simp (eq-eqb a b (omega (arith, zero-mul (down e))), eq-eqb a 0 (omega arith)) at k))

-- the sign is the pattern's highest digit
pub plus : (x : Float) → T (fits binary64 x) → is_nan x ≡ false → to_bits binary64 x < 2 ^ 63 → fin false 1 (pos 0) ≡ signum_of x
unfolding is_nan to_bits signum_of
plus nan t h k = clash (sym h)
plus (inf true) t h k = absurd (omega arith)
plus (inf false) t h k = refl
plus (fin true m e) t h k = absurd (omega arith)
plus (fin false m e) t h k = refl

pub minus : (x : Float) → T (fits binary64 x) → is_nan x ≡ false → 2 ^ 63 ≤ to_bits binary64 x → fin true 1 (pos 0) ≡ signum_of x
unfolding is_nan to_bits signum_of neg
minus nan t h k = clash (sym h)
minus (inf true) t h k = refl
minus (inf false) t h k = absurd (omega arith)
minus (fin true m e) t h k = refl
minus (fin false m e) t h k = absurd (omega (arith, to_bits-lt binary64 (fin true m e) (neg-fits binary64 (fin false m e) t)))

-- ---- at least 2 ^ 64 in magnitude: not below it

abbrev pub far : Float
far = fin false 1 (pos 64)

le_of_not_lt : (a b : ℕ) (t : Bool) → ltb a b ≡ t → not t ≡ (ltb b a || (eqb b a && true))
le_of_not_lt a b true h =
    let l : a < b = ltb-true a b h in
    simp (le-ltb b a (omega arith), ne_eqb b a (λ e. omega arith))
le_of_not_lt a b false h =
    ⊎_elim
    (λ (e : b ≡ a). simp (eq-eqb b a e, le-ltb b a (omega arith)))
    (λ (l : b < a). simp (lt-ltb b a l))
    (eq-or-lt_of_le (ltb-false a b h))

pub not_below_far : (x : Float) → not (lt (abs_of x) far) ≡ wild_of x
unfolding lt le eq abs_of wild_of
not_below_far nan = refl
not_below_far (inf s) = refl
not_below_far (fin s m e) = le_of_not_lt (m * up e * 1) (1 * up (pos 64) * down e) _ refl
