-- How far `round` moves a fraction. Nothing here is about a table. Assumes nothing.
use mathlib.Core.Path.{◌≡◌, sym, ap, ◌∙◌, subst}
use Prim.Native.Nat.{ℕ, ◌+◌, ◌-◌, ◌*◌, ◌/◌, ◌%◌, ◌^◌, ◌≤◌, ◌<◌, compare, Ordering}
use native.Mathlib.Nat.{le_trans, le_of_eq, lt_of_lt_of_le, lt_of_not-le, not-le_of_lt, le_of_mul-le-mul_right, mul_comm, mul_assoc, mul_left_comm, add-mul, suc-mul, mul-le-mul_left, mul-le-mul_right, mul-pos, div-add-mod', mod-lt, le-div_iff_mul-le, div-lt_iff_lt-mul, one-mul}
use native.Mathlib.Omega.{arith}
use mathlib.Core.Bool.{not}
use lib.Dec.{T, is_le, compare_is_eq, eqb, leb→le, nleb→lt, eqb→eq, eqb_refl}
use lib.Arith.{lt_of_le-ne}
use lib.Pow.{pow_pos, pow_mono, pow-add}
use lib.Ieee.{Format, binary64, prec, low, size, nearest}
use lib.Ieee.Digits.{size-lt, size-le, size_reaches}
use lib.Ieee.Nearest.{closest}
use lib.Ieee.Order.{drop, kept}
use lib.Ieee.Scale.{grid}

-- what `compare` says
abbrev Cmp : Ordering → ℕ → ℕ → Type 0
Cmp Ordering.lt a b = a < b
Cmp Ordering.eq a b = a ≡ b
Cmp Ordering.gt a b = b < a

cmp : (a b : ℕ) → Cmp (compare a b) a b
cmp a b = go (compare a b) (leb→le a b) (nleb→lt a b) (eqb→eq a b) (λ (e : a ≡ b). subst (λ (x : ℕ). T (eqb a x)) e (eqb_refl a))
  where
    go : (o : Ordering) → (T (is_le o) → a ≤ b) → (T (not (is_le o)) → b < a) → (T (compare_is_eq o) → a ≡ b) → (a ≡ b → T (compare_is_eq o)) → Cmp o a b
    go Ordering.lt h k e n = lt_of_le-ne (h tt) n
    go Ordering.eq h k e n = e tt
    go Ordering.gt h k e n = k tt

-- g is at most e / 2 from x
pub record Near (g x e : ℕ) : Type 0 where
  pub low : 2 * x ≤ 2 * g + e
  pub high : 2 * g ≤ 2 * x + e

-- the remainder r of n by u, with the whole part q
by_order : (o : Ordering) (n u q r : ℕ) → q * u + r ≡ n → r < u → Cmp o (r * 2) u → Near (nearest q o * u) n u
by_order Ordering.lt n u q r e h c = record { low = omega arith; high = omega arith }
by_order Ordering.eq n u q r e h c =
    let odd : q % 2 * u ≤ 1 * u = mul-le-mul_right u (omega arith) in
    record { low = omega (arith, add-mul q (q % 2) u); high = omega (arith, odd, add-mul q (q % 2) u, one-mul u) }
by_order Ordering.gt n u q r e h c = record { low = omega (arith, suc-mul q u); high = omega (arith, suc-mul q u) }

pub closest_near : (n u : ℕ) → 0 < u → Near (closest n u * u) n u
closest_near n u h = by_order (compare (n % u * 2) u) n u (n / u) (n % u) (div-add-mod' n u) (mod-lt n h) (cmp (n % u * 2) u)

spare : (z p l : ℕ) → z ≤ p + l → z - p ≤ l
spare z p l h = omega arith

wider : (g x e e' : ℕ) → e ≤ e' → Near g x e → Near g x e'
wider g x e e' h n = record { low = omega (arith, n.low); high = omega (arith, n.high) }

-- a / c, in units below 2 ^ (prec + k), is rounded by at most half of 2 ^ k units
pub grid_near : (f : Format) (a c k : ℕ) → 0 < c → a * 2 ^ low f < 2 ^ (prec f + k) * c → Near (grid f a c * c) (a * 2 ^ low f) (c * 2 ^ k)
grid_near f a c k C h =
    let n = a * 2 ^ low f in
    let p = prec f in
    let j = drop p n c in
    let u = c * 2 ^ j in
    let e : grid f a c * c ≡ kept p n c * u = mul_assoc (kept p n c) (2 ^ j) c ∙ ap (λ (z : ℕ). kept p n c * z) (mul_comm (2 ^ j) c) in
    let few : j ≤ k = spare (size (n / c)) p k (size-le (n / c) (p + k) ((div-lt_iff_lt-mul C).1 h)) in
    wider (grid f a c * c) n u (c * 2 ^ k) (mul-le-mul_left c (pow_mono few))
    (subst (λ (z : ℕ). Near z n u) (sym e) (closest_near n u (mul-pos C (pow_pos j))))

-- g is x, moved by at most 2 ^ -53 of x
pub record Rounded (g x : ℕ) : Type 0 where
  pub low : (2 ^ 53 - 1) * x ≤ 2 ^ 53 * g
  pub high : 2 ^ 53 * g ≤ (2 ^ 53 + 1) * x

pub not_twice : {g x : ℕ} → Rounded g x → g ≤ 2 * x
not_twice n = omega (arith, n.low, n.high)

pub half_at_least : {g x : ℕ} → Rounded g x → (y : ℕ) → 2 * y ≤ x → y ≤ g
half_at_least n y h = omega (arith, n.low, n.high)

by_unit : (g x u : ℕ) → 2 ^ 52 * u ≤ x → Near g x u → Rounded g x
by_unit g x u h n = record { low = omega (arith, n.low); high = omega (arith, n.high) }

-- as much added to both
pub near_more : (g x e k : ℕ) → Near g x e → Near (k + g) (k + x) e
near_more g x e k n = record { low = omega (arith, n.low); high = omega (arith, n.high) }

-- a common factor taken out
pub near_cancel : (g x e k : ℕ) → 0 < k → Near (g * k) (x * k) (e * k) → Near g x e
near_cancel g x e k K n =
    record {
      low = le-div (2 * x) (2 * g + e) (omega (arith, n.low, add-mul (2 * g) e k, mul_assoc 2 g k, mul_assoc 2 x k));
      high = le-div (2 * g) (2 * x + e) (omega (arith, n.high, add-mul (2 * x) e k, mul_assoc 2 g k, mul_assoc 2 x k));
    }
  where
    le-div : (y z : ℕ) → y * k ≤ z * k → y ≤ z
    le-div y z h = le_of_mul-le-mul_right h K

-- a / c, which is no smaller than the least f64 with 53 digits, is rounded by at most 2 ^ -53 of it
pub grid_rounded : (a c : ℕ) → 0 < c → 2 ^ 52 * c ≤ a * 2 ^ 1074 → Rounded (grid binary64 a c * c) (a * 2 ^ 1074)
grid_rounded a c C h =
    let n = a * 2 ^ 1074 in
    let z = size (n / c) in
    let j = drop 53 n c in
    let u = c * 2 ^ j in
    let e : grid binary64 a c * c ≡ kept 53 n c * u = mul_assoc (kept 53 n c) (2 ^ j) c ∙ ap (λ (k : ℕ). kept 53 n c * k) (mul_comm (2 ^ j) c) in
    let many : 52 < z = lt_of_not-le (λ (g : z ≤ 52). not-le_of_lt (lt_of_lt_of_le (size-lt (n / c)) (pow_mono g)) ((le-div_iff_mul-le C).1 h)) in
    let reach : 2 ^ (52 + j) * c ≤ n = (le-div_iff_mul-le C).0 (size_reaches (n / c) (52 + j) (last z many)) in
    subst (λ (k : ℕ). Rounded k n) (sym e)
    (by_unit (kept 53 n c * u) n u (le_trans (le_of_eq (mul_left_comm (2 ^ 52) c (2 ^ j) ∙ mul_comm c (2 ^ 52 * 2 ^ j) ∙ ap (λ (k : ℕ). k * c) (sym (pow-add 2 52 j)))) reach) (closest_near n u (mul-pos C (pow_pos j))))
  where
    last : (z : ℕ) → 52 < z → 52 + (z - 53) < z
    last z h = omega arith

-- the same over a denominator that has the units, taken out
pub units_rounded : (a d : ℕ) → 0 < d → 2 ^ 52 * d ≤ a → Rounded (grid binary64 a (d * 2 ^ 1074) * d) a
units_rounded a d D h =
    record {
      low = out ((2 ^ 53 - 1) * a) (2 ^ 53 * (g * d)) (le_trans (le_of_eq (mul_assoc (2 ^ 53 - 1) a (2 ^ 1074))) (le_trans n.low (le_of_eq regroup)));
      high = out (2 ^ 53 * (g * d)) ((2 ^ 53 + 1) * a) (le_trans (le_of_eq (sym regroup)) (le_trans n.high (le_of_eq (sym (mul_assoc (2 ^ 53 + 1) a (2 ^ 1074))))));
    }
  where
    g : ℕ
    g = grid binary64 a (d * 2 ^ 1074)

    n : Rounded (g * (d * 2 ^ 1074)) (a * 2 ^ 1074)
    n = grid_rounded a (d * 2 ^ 1074) (mul-pos D (pow_pos 1074)) (le_trans (le_of_eq (sym (mul_assoc (2 ^ 52) d (2 ^ 1074)))) (mul-le-mul_right (2 ^ 1074) h))

    regroup : 2 ^ 53 * (g * (d * 2 ^ 1074)) ≡ 2 ^ 53 * (g * d) * 2 ^ 1074
    regroup = ap (λ (k : ℕ). 2 ^ 53 * k) (sym (mul_assoc g d (2 ^ 1074))) ∙ sym (mul_assoc (2 ^ 53) (g * d) (2 ^ 1074))

    out : (y z : ℕ) → y * 2 ^ 1074 ≤ z * 2 ^ 1074 → y ≤ z
    out y z k = le_of_mul-le-mul_right k (pow_pos 1074)
