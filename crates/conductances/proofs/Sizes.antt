-- How large a product, a quotient and a sum can be, and how small a product. Assumes nothing.
use mathlib.Core.Path.{◌≡◌, refl, sym, ap, ◌∙◌, subst}
use mathlib.Core.Bool.{true, false}
use Prim.Native.Nat.{ℕ, suc, ◌+◌, ◌*◌, ◌^◌, ◌≤◌, ◌<◌}
use native.Mathlib.Nat.{le_trans, le_of_eq, lt_of_lt_of_le, mul_comm, mul_assoc, mul_right_comm, mul-le-mul, mul-le-mul_right, mul-mul-mul_comm, mul-pos, pow-suc, le-add_right}
use native.Mathlib.Omega.{arith}
use lib.IntN.{ℤ}
use lib.Dec.{T}
use lib.Pow.{pow-add, pow_mono}
use lib.Ieee.{Float, nan, inf, fin, binary64, up, down, unlike, round, sum, add, mul, div, le}
use lib.Ieee.Fits.{down_pos}
use lib.Ieee.Order.{round_mono}
use lib.Ieee.Positive.{num, den, den_pos, positive, first_pos, le→cross}
use borrow.Author.Tests.{ne_eqb}
use Rattle.conductances.proofs.Grid.{clear, round_clear, Size, Least, round_size, round_least}

pub wider : (x : Float) (h k : ℕ) → h ≤ k → Size h x → Size k x
wider nan h k l p = p
wider (inf s) h k l p = p
wider (fin s m e) h k l p = le_trans p (mul-le-mul_right (down e) (pow_mono l))

-- ---- the product
most_of : (X Y p q h k : ℕ) → X ≤ 2 ^ h * p → Y ≤ 2 ^ k * q → X * Y ≤ 2 ^ (h + k) * (p * q)
most_of X Y p q h k a b = le_trans (mul-le-mul a b) (le_of_eq (mul-mul-mul_comm (2 ^ h) p (2 ^ k) q ∙ ap (λ (z : ℕ). z * (p * q)) (sym (pow-add 2 h k))))

least_of : (X Y p q h k : ℕ) → p ≤ X * 2 ^ h → q ≤ Y * 2 ^ k → p * q ≤ X * Y * 2 ^ (h + k)
least_of X Y p q h k a b = le_trans (mul-le-mul a b) (le_of_eq (mul-mul-mul_comm X (2 ^ h) Y (2 ^ k) ∙ ap (λ (z : ℕ). X * Y * z) (sym (pow-add 2 h k))))

pub mul_size : (x y : Float) (h k : ℕ) → h + k ≤ 1023 → Size h x → Size k y → Size (h + k) (mul binary64 x y)
unfolding mul
mul_size nan y h k l a b = absurd a
mul_size (inf s) y h k l a b = absurd a
mul_size (fin s m e) nan h k l a b = absurd b
mul_size (fin s m e) (inf t) h k l a b = absurd b
mul_size (fin s m e) (fin t n d) h k l a b =
    round_size (unlike s t) (m * up e * (n * up d)) (down e * down d) (h + k) (mul-pos (down_pos e) (down_pos d)) l (most_of (m * up e) (n * up d) (down e) (down d) h k a b)

pub mul_least : (x y : Float) (h k i j : ℕ) → h + k ≤ 1023 → i + j ≤ 1074 → Size h x → Size k y → Least i x → Least j y → Least (i + j) (mul binary64 x y)
unfolding mul
mul_least nan y h k i j l r a b u w = absurd a
mul_least (inf s) y h k i j l r a b u w = absurd a
mul_least (fin s m e) nan h k i j l r a b u w = absurd b
mul_least (fin s m e) (inf t) h k i j l r a b u w = absurd b
mul_least (fin s m e) (fin t n d) h k i j l r a b u w =
    round_least (unlike s t) (m * up e * (n * up d)) (down e * down d) (h + k) (i + j) (mul-pos (down_pos e) (down_pos d)) l (most_of (m * up e) (n * up d) (down e) (down d) h k a b) r
    (least_of (m * up e) (n * up d) (down e) (down d) i j u w)

-- of two that are not negative
pub mul_clear : (x y : Float) (h k : ℕ) → Size h x → Size k y → T (clear x) → T (clear y) → T (clear (mul binary64 x y))
unfolding mul
mul_clear nan y h k a b p q = absurd a
mul_clear (inf s) y h k a b p q = absurd a
mul_clear (fin s m e) nan h k a b p q = absurd b
mul_clear (fin s m e) (inf t) h k a b p q = absurd b
mul_clear (fin true m e) (fin t n d) h k a b p q = absurd p
mul_clear (fin false m e) (fin true n d) h k a b p q = absurd q
mul_clear (fin false m e) (fin false n d) h k a b p q = round_clear binary64 (m * up e * (n * up d)) (down e * down d)

-- ---- the quotient
positive_of : (Y q k : ℕ) → 0 < q → q ≤ Y * 2 ^ k → 0 < Y
positive_of Y q k Q h = first_pos Y (2 ^ k) (lt_of_lt_of_le Q h)

not_zero : (n : ℕ) → 0 < n → n ≡ 0 → ⊥
not_zero n h e = omega arith

quotient_of : (X Y p q h k : ℕ) → X ≤ 2 ^ h * p → q ≤ Y * 2 ^ k → X * q ≤ 2 ^ (h + k) * (Y * p)
quotient_of X Y p q h k a b =
    le_trans (mul-le-mul a b)
    (le_of_eq
    (mul-mul-mul_comm (2 ^ h) p Y (2 ^ k)
    ∙ ap (λ (z : ℕ). 2 ^ h * Y * z) (mul_comm p (2 ^ k))
    ∙ mul-mul-mul_comm (2 ^ h) Y (2 ^ k) p
    ∙ ap (λ (z : ℕ). z * (Y * p)) (sym (pow-add 2 h k))))

pub div_size : (x y : Float) (h k : ℕ) → h + k ≤ 1023 → Size h x → Least k y → Size (h + k) (div binary64 x y)
unfolding div
div_size nan y h k l a b = absurd a
div_size (inf s) y h k l a b = absurd a
div_size (fin s m e) nan h k l a b = absurd b
div_size (fin s m e) (inf t) h k l a b = absurd b
div_size (fin s m e) (fin t n d) h k l a b =
    let Y : 0 < n * up d = positive_of (n * up d) (down d) k (down_pos d) b in
    rw (ne_eqb n 0 (not_zero n (first_pos n (up d) Y)))
    (round_size (unlike s t) (m * up e * down d) (n * up d * down e) (h + k) (mul-pos Y (down_pos e)) l (quotient_of (m * up e) (n * up d) (down e) (down d) h k a b))

-- ---- the sum of two that are not negative
sum_of : (X Y p q h : ℕ) → X ≤ 2 ^ h * p → Y ≤ 2 ^ h * q → X * q + Y * p ≤ 2 ^ suc h * (p * q)
sum_of X Y p q h a b =
    let z = 2 ^ h * (p * q) in
    let c : X * q ≤ z = le_trans (mul-le-mul_right q a) (le_of_eq (mul_assoc (2 ^ h) p q)) in
    let d : Y * p ≤ z = le_trans (mul-le-mul_right p b) (le_of_eq (mul_assoc (2 ^ h) q p ∙ ap (λ (w : ℕ). 2 ^ h * w) (mul_comm q p))) in
    let e : 2 ^ suc h * (p * q) ≡ z * 2 = ap (λ (w : ℕ). w * (p * q)) (pow-suc 2 h) ∙ mul_right_comm (2 ^ h) 2 (p * q) in
    rw e (twice (X * q) (Y * p) z c d)
  where
    twice : (u v w : ℕ) → u ≤ w → v ≤ w → u + v ≤ w * 2
    twice u v w i j = omega arith

pub add_is : (m : ℕ) (e : ℤ) (n : ℕ) (d : ℤ) → add binary64 (fin false m e) (fin false n d) ≡ round binary64 false (m * up e * down d + n * up d * down e) (down e * down d)
unfolding add sum
add_is m e n d = refl

pub add_size : (x y : Float) (h : ℕ) → suc h ≤ 1023 → T (clear x) → T (clear y) → Size h x → Size h y → Size (suc h) (add binary64 x y)
add_size nan y h l p q a b = absurd a
add_size (inf s) y h l p q a b = absurd a
add_size (fin s m e) nan h l p q a b = absurd b
add_size (fin s m e) (inf t) h l p q a b = absurd b
add_size (fin true m e) (fin t n d) h l p q a b = absurd p
add_size (fin false m e) (fin true n d) h l p q a b = absurd q
add_size (fin false m e) (fin false n d) h l p q a b =
    subst (λ (z : Float). Size (suc h) z) (sym (add_is m e n d))
    (round_size false (m * up e * down d + n * up d * down e) (down e * down d) (suc h) (mul-pos (down_pos e) (down_pos d)) l (sum_of (m * up e) (n * up d) (down e) (down d) h a b))

-- a sum is no less than its first part, where that is an f64's bound
pub add_from : (lo x y : Float) (k : ℕ) → lo ≡ round binary64 false (num lo) (den lo) → T (positive lo) → T (positive x) → T (le lo x) → T (clear y) → Size k y → T (le lo (add binary64 x y))
add_from lo nan y k r P p h q b = absurd p
add_from lo (inf s) y k r P p h q b = absurd p
add_from lo (fin true m e) y k r P p h q b = absurd p
add_from lo (fin false m e) nan k r P p h q b = absurd b
add_from lo (fin false m e) (inf t) k r P p h q b = absurd b
add_from lo (fin false m e) (fin true n d) k r P p h q b = absurd q
add_from lo (fin false m e) (fin false n d) k r P p h q b =
    subst (λ (z : Float). T (le z (add binary64 (fin false m e) (fin false n d)))) (sym r)
    (subst (λ (z : Float). T (le (round binary64 false (num lo) (den lo)) z)) (sym (add_is m e n d))
    (round_mono binary64 (num lo) (den lo) (m * up e * down d + n * up d * down e) (down e * down d) (den_pos lo) (mul-pos (down_pos e) (down_pos d))
    (more (num lo) (den lo) (m * up e) (down e) (down d) (n * up d * down e) (le→cross lo (fin false m e) P p h))))
  where
    more : (a c X p q Z : ℕ) → a * p ≤ X * c → a * (p * q) ≤ (X * q + Z) * c
    more a c X p q Z l =
        le_trans (le_of_eq (sym (mul_assoc a p q)))
        (le_trans (mul-le-mul_right q l)
        (le_trans (le_of_eq (mul_right_comm X c q)) (mul-le-mul_right c (le-add_right (X * q) Z))))
