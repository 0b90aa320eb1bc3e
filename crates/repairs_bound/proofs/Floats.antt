-- Sums of f64s that are not below zero, quotients of +0.0, and roots above zero. Assumes nothing.
use Prim.Native.Nat.{ℕ, zero, suc, ◌+◌, ◌-◌, ◌*◌, ◌/◌, ◌%◌, ◌^◌, ◌≤◌, ◌<◌, compare}
use mathlib.Core.Path.{◌≡◌, refl, sym, ap, ◌∙◌, subst}
use mathlib.Core.Bool.{Bool, true, false, not, cond}
use native.Mathlib.Nat.{zero-mul, mul-one, le_trans, le_of_eq, mul-pos, mul_assoc, mul_comm, mul-le-mul_right, eq_of_mul-eq-mul_right}
use native.Mathlib.Omega.{arith}
use borrow.Author.Tests.{ltb-true, lt-ltb, eqb-false, leb-false, le-leb}
use lib.Dec.{T, eqb, ltb, leb, ltb→lt, eqb-suc-zero}
use lib.IntN.{ℤ, pos}
use lib.Pow.{pow_pos}
use lib.Ieee.{Float, nan, inf, fin, Format, binary64, prec, emax, low, up, down, size, nearest, odd, units, round, neg, sum, add, sub, div, lt, le, fits, is_nan, to_bits, of_bits, of_fields}
use lib.Ieee.Bits.{of_bits-to_bits}
use lib.Ieee.Exact.{HasValue, round_exact}
use lib.Ieee.Fits.{up_pos, down_pos, round_is, round-fits, add-fits}
use lib.Ieee.Back.{whole_unique}
use lib.Ieee.Order.{round_mono}
use lib.Ieee.Positive.{positive, first_pos, above_of_le, positive_of_value, above as aboveZero}
use Rattle.nearest.specs.Nearest as pattern
use Rattle.nearest.proofs.Values.{Positive, value}
use Rattle.roots.specs.Root.{root_of, root_bits}
use Rattle.roots.proofs.Normal.{sig_pos}
use Rattle.roots.proofs.Cases.{root_field}
use Rattle.zeros.specs.Zeros.{minus_zero}
use Rattle.zeros.proofs.Zeros.{clash, zero_taken}

-- ---- signs

-- the sign of a number; no NaN has one
abbrev pub HasSign : Float → Bool → Type 0
HasSign nan s = ⊥
HasSign (inf t) s = t ≡ s
HasSign (fin t m e) s = t ≡ s

odd_sign : (d : ℕ) (s : Bool) (q k l : ℕ) → HasSign (odd d s q k l) s
unfolding odd
odd_sign d s zero k l = refl
odd_sign d s (suc q) k l = refl

units_sign : (f : Format) (s : Bool) (q k : ℕ) → HasSign (units f s q k) s
unfolding units
units_sign f s q k = go (ltb (q * 2 ^ k) (2 ^ (low f + suc (emax f))))
  where
    go : (b : Bool) → HasSign (cond b (odd (suc (prec f)) s q k (low f)) (inf s)) s
    go true = odd_sign (suc (prec f)) s q k (low f)
    go false = refl

round_sign : (f : Format) (s : Bool) (a c : ℕ) → HasSign (round f s a c) s
round_sign f s a c =
    let n = a * 2 ^ low f in
    let k = size (n / c) - prec f in
    let u = c * 2 ^ k in
    subst (λ (x : Float). HasSign x s) (sym (round_is f s a c)) (units_sign f s (nearest (n / u) (compare (n % u * 2) u)) k)

signed_below : (x : Float) → HasSign x true → T (aboveZero x) → ⊥
signed_below nan p h = h
signed_below (inf true) p h = h
signed_below (inf false) p h = clash p
signed_below (fin true m e) p h = h
signed_below (fin false m e) p h = clash p

pub above_sign : (x : Float) → T (aboveZero x) → HasSign x false
above_sign nan h = h
above_sign (inf true) h = absurd h
above_sign (inf false) h = refl
above_sign (fin true m e) h = absurd h
above_sign (fin false m e) h = refl

-- ---- the test of a pivot

pub test_above : (x : Float) → lt (of_bits binary64 0) x ≡ true → T (aboveZero x)
unfolding lt of_bits of_fields odd
test_above nan h = clash h
test_above (inf s) h = subst T (sym h) tt
test_above (fin true m e) h = clash h
test_above (fin false m e) h =
    let q : 0 < m * up e = omega (arith, ltb-true (0 * down e) (m * up e * 1) h) in
    subst T (sym (lt-ltb 0 m (first_pos m (up e) q))) tt

pub above_test : (x : Float) → T (aboveZero x) → lt (of_bits binary64 0) x ≡ true
unfolding lt of_bits of_fields odd
above_test nan h = absurd h
above_test (inf true) h = absurd h
above_test (inf false) h = refl
above_test (fin true m e) h = absurd h
above_test (fin false m e) h = lt-ltb (0 * down e) (m * up e * 1) (omega (arith, mul-pos (ltb→lt 0 m h) (up_pos e)))

-- ---- sums

pub add_unsigned : (x y : Float) → HasSign x false → HasSign y false → HasSign (add binary64 x y) false
unfolding add sum
add_unsigned nan y p q = absurd p
add_unsigned (inf true) y p q = clash (sym p)
add_unsigned (inf false) nan p q = absurd q
add_unsigned (inf false) (inf true) p q = clash (sym q)
add_unsigned (inf false) (inf false) p q = refl
add_unsigned (inf false) (fin t n d) p q = refl
add_unsigned (fin true m e) y p q = clash (sym p)
add_unsigned (fin false m e) nan p q = absurd q
add_unsigned (fin false m e) (inf t) p q = q
add_unsigned (fin false m e) (fin true n d) p q = clash (sym q)
add_unsigned (fin false m e) (fin false n d) p q = round_sign binary64 false (m * up e * down d + n * up d * down e) (down e * down d)

-- what fits is its own rounding: it is itself less -0.0
own : (m : ℕ) (e : ℤ) → T (fits binary64 (fin false m e)) → round binary64 false (m * up e * 1 + 0 * down e) (down e * 1) ≡ fin false m e
unfolding sub add neg sum minus_zero
own m e h = zero_taken (fin false m e) true (record { held = h; sign = refl })

-- so a rounded fraction that is not below it is above zero
rounds_up : (m : ℕ) (e : ℤ) (a c : ℕ) → T (fits binary64 (fin false m e)) → T (ltb 0 m) → 0 < c → (m * up e * 1 + 0 * down e) * c ≤ a * (down e * 1) → T (aboveZero (round binary64 false a c))
rounds_up m e a c h p C le-cross =
    above_of_le (fin false m e) (round binary64 false a c) p
    (subst (λ (z : Float). T (le z (round binary64 false a c))) (own m e h)
    (round_mono binary64 (m * up e * 1 + 0 * down e) (down e * 1) a c (mul-pos (down_pos e) (pow_pos 0)) C le-cross))

first_less : (x E d v : ℕ) → (x * 1 + 0 * E) * (E * d) ≤ (x * d + v) * (E * 1)
first_less x E d v =
    let a : x * 1 + 0 * E ≡ x = omega arith in
    let b : E * 1 ≡ E = omega arith in
    let c : x * (E * d) ≡ x * d * E = simp (mul_assoc, mul_comm) in
    let more : x * d ≤ x * d + v = omega arith in
    rw (a, b) (le_trans (le_of_eq c) (mul-le-mul_right E more))

second_less : (y D e v : ℕ) → (y * 1 + 0 * D) * (e * D) ≤ (v + y * e) * (D * 1)
second_less y D e v =
    let a : y * 1 + 0 * D ≡ y = omega arith in
    let b : D * 1 ≡ D = omega arith in
    let c : y * (e * D) ≡ y * e * D = sym (mul_assoc y e D) in
    let more : y * e ≤ v + y * e = omega arith in
    rw (a, b) (le_trans (le_of_eq c) (mul-le-mul_right D more))

add_above_first : (x y : Float) → T (fits binary64 x) → T (aboveZero x) → HasSign y false → T (aboveZero (add binary64 x y))
unfolding add sum
add_above_first nan y h p q = absurd p
add_above_first (inf true) y h p q = absurd p
add_above_first (inf false) nan h p q = absurd q
add_above_first (inf false) (inf true) h p q = clash (sym q)
add_above_first (inf false) (inf false) h p q = tt
add_above_first (inf false) (fin t n d) h p q = tt
add_above_first (fin true m e) y h p q = absurd p
add_above_first (fin false m e) nan h p q = absurd q
add_above_first (fin false m e) (inf true) h p q = clash (sym q)
add_above_first (fin false m e) (inf false) h p q = tt
add_above_first (fin false m e) (fin true n d) h p q = clash (sym q)
add_above_first (fin false m e) (fin false n d) h p q =
    rounds_up m e (m * up e * down d + n * up d * down e) (down e * down d) h p (mul-pos (down_pos e) (down_pos d)) (first_less (m * up e) (down e) (down d) (n * up d * down e))

add_above_second : (x y : Float) → HasSign x false → T (fits binary64 y) → T (aboveZero y) → T (aboveZero (add binary64 x y))
unfolding add sum
add_above_second nan y p h q = absurd p
add_above_second (inf true) y p h q = clash (sym p)
add_above_second (inf false) nan p h q = absurd q
add_above_second (inf false) (inf true) p h q = absurd q
add_above_second (inf false) (inf false) p h q = tt
add_above_second (inf false) (fin t n d) p h q = tt
add_above_second (fin true m e) y p h q = clash (sym p)
add_above_second (fin false m e) nan p h q = absurd q
add_above_second (fin false m e) (inf true) p h q = absurd q
add_above_second (fin false m e) (inf false) p h q = tt
add_above_second (fin false m e) (fin true n d) p h q = absurd q
add_above_second (fin false m e) (fin false n d) p h q =
    rounds_up n d (m * up e * down d + n * up d * down e) (down e * down d) h q (mul-pos (down_pos e) (down_pos d)) (second_less (n * up d) (down d) (down e) (m * up e * down d))

-- an f64 above zero
pub record Lifted (x : Float) : Type 0 where
  pub held : T (fits binary64 x)
  pub risen : T (aboveZero x)

pub lifted_sign : (x : Float) → Lifted x → HasSign x false
lifted_sign x h = above_sign x h.risen

-- it stays one under an addition that is not below zero, and lifts what is not below zero
pub stays_lifted : (x y : Float) → Lifted x → HasSign y false → Lifted (add binary64 x y)
stays_lifted x y h q = record { held = add-fits binary64 x y; risen = add_above_first x y h.held h.risen q }

pub lifts : (x y : Float) → HasSign x false → Lifted y → Lifted (add binary64 x y)
lifts x y p h = record { held = add-fits binary64 x y; risen = add_above_second x y p h.held h.risen }

-- ---- quotients

above_quotient : (x c : Float) → HasSign x false → T (aboveZero (div binary64 x c)) → HasSign c false
unfolding div
above_quotient nan c p h = absurd p
above_quotient (inf true) c p h = clash (sym p)
above_quotient (inf false) nan p h = h
above_quotient (inf false) (inf t) p h = absurd h
above_quotient (inf false) (fin true n d) p h = absurd h
above_quotient (inf false) (fin false n d) p h = refl
above_quotient (fin true m e) c p h = clash (sym p)
above_quotient (fin false m e) nan p h = h
above_quotient (fin false m e) (inf true) p h = absurd h
above_quotient (fin false m e) (inf false) p h = refl
above_quotient (fin false m e) (fin false n d) p h = refl
above_quotient (fin false m e) (fin true n d) p h = absurd (go (eqb n 0) (eqb m 0) h)
  where
    go : (a b : Bool) → T (aboveZero (cond a (cond b nan (inf true)) (round binary64 true (m * up e * down d) (n * up d * down e)))) → ⊥
    go true true k = k
    go true false k = k
    go false b k = signed_below (round binary64 true (m * up e * down d) (n * up d * down e)) (round_sign binary64 true (m * up e * down d) (n * up d * down e)) k

-- what a positive number over it is above zero is not below zero
pub divisor_sign : (x c : Float) → HasSign x false → lt (of_bits binary64 0) (div binary64 x c) ≡ true → HasSign c false
divisor_sign x c p h = above_quotient x c p (test_above (div binary64 x c) h)

to_one : (x : Float) (den : ℕ) → 0 < den → HasValue x false 0 den → HasValue x false 0 1
to_one nan den p v = v
to_one (inf s) den p v = v
to_one (fin s m e) den p v = (
  v.0,
  eq_of_mul-eq-mul_right den p (m * up e * 1) (0 * down e)
      (ap (λ (z : ℕ). z * den) (mul-one (m * up e)) ∙ v.1 ∙ zero-mul (down e) ∙ sym (zero-mul den) ∙ ap (λ (z : ℕ). z * den) (sym (zero-mul (down e)))),
)

round_zero : (den : ℕ) → 0 < den → round binary64 false 0 den ≡ fin false 0 (pos 0)
round_zero den h =
    whole_unique binary64 (round binary64 false 0 den) (fin false 0 (pos 0)) false 0 (round-fits binary64 false 0 den) (unfold fits in tt)
    (to_one (round binary64 false 0 den) den h
    (round_exact binary64 false 0 den 0 0 h (pow_pos (prec binary64)) (subst (λ (x : ℕ). x < 2 ^ (low binary64 + suc (emax binary64))) (sym (zero-mul (2 ^ 0))) (pow_pos (low binary64 + suc (emax binary64)))) (zero-mul (2 ^ low binary64) ∙ sym (zero-mul den))))
    (refl, refl)

-- +0.0 over a number above zero is +0.0
pub zero_quotient : (d : Float) → T (aboveZero d) → div binary64 (of_bits binary64 0) d ≡ of_bits binary64 0
unfolding div of_bits of_fields odd
zero_quotient nan h = absurd h
zero_quotient (inf true) h = absurd h
zero_quotient (inf false) h = refl
zero_quotient (fin true n d) h = absurd h
zero_quotient (fin false zero d) h = absurd h
zero_quotient (fin false (suc n) d) h =
    rw (eqb-suc-zero n, zero-mul (down d)) (round_zero (suc n * up d * 1) (mul-pos (mul-pos (ltb→lt 0 (suc n) h) (up_pos d)) (pow_pos 0)))

-- ---- roots

fields_below : (x t : ℕ) → T (aboveZero (of_fields binary64 true x t)) → ⊥
unfolding of_fields
fields_below zero t h = signed_below (odd (prec binary64) true t 0 (low binary64)) (odd_sign (prec binary64) true t 0 (low binary64)) h
fields_below (suc x) t h = go (eqb (suc x) 2047) (eqb t 0) h
  where
    go : (a b : Bool) → T (aboveZero (cond a (cond b (inf true) nan) (odd (prec binary64) true (2 ^ 52 + t) x (low binary64)))) → ⊥
    go true true k = k
    go true false k = k
    go false b k = signed_below (odd (prec binary64) true (2 ^ 52 + t) x (low binary64)) (odd_sign (prec binary64) true (2 ^ 52 + t) x (low binary64)) k

-- a pattern from 2 ^ 63 on is of no number above zero
bits_below : (b : ℕ) → 2 ^ 63 ≤ b → T (aboveZero (of_bits binary64 b)) → ⊥
unfolding of_bits
bits_below b h = rw (le-leb (2 ^ 63) b h) (fields_below (b % 2 ^ 63 / 2 ^ 52) (b % 2 ^ 52))

above_of_positive : (x : Float) → T (positive x) → T (aboveZero x)
above_of_positive nan p = p
above_of_positive (inf s) p = absurd p
above_of_positive (fin true m e) p = p
above_of_positive (fin false m e) p = p

units_pos : (b : ℕ) → Positive b → 0 < pattern.units b
unfolding pattern.units
units_pos b h = mul-pos (sig_pos b h) (pow_pos (pattern.field b - 1))

pattern_above : (b : ℕ) → Positive b → T (aboveZero (of_bits binary64 b))
pattern_above b h = above_of_positive (of_bits binary64 b) (positive_of_value (of_bits binary64 b) (pattern.units b) (2 ^ 1074) (value b h) (units_pos b h))

root_pattern : (b : ℕ) → Positive b → T (aboveZero (of_bits binary64 (root_bits b)))
root_pattern b h = let w = root_field b h in pattern_above (root_bits b) (record { above = omega (arith, w.0); below = omega (arith, w.1) })

above_number : (x : Float) → T (aboveZero x) → is_nan x ≡ true → ⊥
unfolding is_nan
above_number nan h e = h
above_number (inf s) h e = clash e
above_number (fin s m k) h e = clash e

-- the root of a number above zero is above zero
pub root_above : (x : Float) → T (fits binary64 x) → T (aboveZero x) → T (aboveZero (root_of x))
unfolding root_of
root_above x held h =
    go (to_bits binary64 x) (subst (λ (y : Float). T (aboveZero y)) (sym (of_bits-to_bits binary64 x held)) h) (is_nan x) refl (eqb (to_bits binary64 x % 2 ^ 63) 0) refl (ltb (2 ^ 63) (to_bits binary64 x)) refl (leb (2047 * 2 ^ 52) (to_bits binary64 x)) refl
  where
    go : (b : ℕ) → T (aboveZero (of_bits binary64 b)) → (i : Bool) → is_nan x ≡ i → (z : Bool) → eqb (b % 2 ^ 63) 0 ≡ z → (n : Bool) → ltb (2 ^ 63) b ≡ n → (w : Bool) → leb (2047 * 2 ^ 52) b ≡ w
        → T (aboveZero (cond i nan (cond z x (cond n nan (cond w x (of_bits binary64 (root_bits b)))))))
    go b k true pi z pz n pn w pw = absurd (above_number x h pi)
    go b k false pi true pz n pn w pw = h
    go b k false pi false pz true pn w pw = absurd (bits_below b (omega (arith, ltb-true (2 ^ 63) b pn)) k)
    go b k false pi false pz false pn true pw = h
    go b k false pi false pz false pn false pw = root_pattern b (record { above = some b (eqb-false (b % 2 ^ 63) 0 pz); below = leb-false (2047 * 2 ^ 52) b pw })
      where
        some : (b : ℕ) → (b % 2 ^ 63 ≡ 0 → ⊥) → 0 < b
        some zero f = absurd (f refl)
        some (suc b) f = omega arith
