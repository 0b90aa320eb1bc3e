-- What a pattern's `units` mean: the value of its f64 is `units` / 2 ^ 1074. Assumes nothing.
use mathlib.Core.Path.{◌≡◌, refl, subst}
use mathlib.Core.Bool.{false, cond}
use Prim.Native.Nat.{ℕ, zero, suc, ◌+◌, ◌-◌, ◌*◌, ◌/◌, ◌%◌, ◌^◌, ◌<◌, max}
use native.Mathlib.Nat.{add-zero}
use native.Mathlib.Omega.{arith}
use lib.Dec.{T, eqb}
use lib.Ieee.{Float, nan, inf, fin, binary64, of_bits, of_fields, to_bits, fits, is_nan}
use lib.Ieee.Bits.{of_bits-to_bits}
use lib.Ieee.Exact.{HasValue, odd_sign}
use borrow.Author.Tests.{ne_eqb, lt-leb}
use Rattle.nearest.specs.Nearest.{units}

-- the pattern of an f64 that is finite and above zero
pub record Positive (p : ℕ) : Type 0 where
  pub above : 0 < p
  pub below : p < 2047 * 2 ^ 52

by_fields : (q t : ℕ) → q < 2047 → HasValue (of_fields binary64 false q t) false ((t + cond {A = ℕ} (eqb q 0) 0 (2 ^ 52)) * 2 ^ (max q 1 - 1)) (2 ^ 1074)
unfolding of_fields
by_fields zero t h = rw (add-zero t) (odd_sign 53 false t 0 1074)
by_fields (suc x) t h =
    let m : max (suc x) 1 - 1 ≡ x = omega arith in
    let c : t + 2 ^ 52 ≡ 2 ^ 52 + t = omega arith in
    simp (ne_eqb (suc x) 2047 (λ e. omega arith), ne_eqb (suc x) 0 (λ e. omega arith), m, c) (odd_sign 53 false (2 ^ 52 + t) x 1074)

pub value : (p : ℕ) → Positive p → HasValue (of_bits binary64 p) false (units p) (2 ^ 1074)
unfolding of_bits units
value p h =
    let e : p % 2 ^ 63 ≡ p = omega arith in
    simp (lt-leb (2 ^ 63) p (omega arith), e) (by_fields (p / 2 ^ 52) (p % 2 ^ 52) (omega arith))

-- x is no NaN: the pattern of one is not below that of the infinity
pub plain : (x : Float) → to_bits binary64 x < 2047 * 2 ^ 52 → is_nan x ≡ false
unfolding is_nan to_bits
plain nan h = absurd (omega arith)
plain (inf s) h = refl
plain (fin s m e) h = refl

pub number : (x : Float) → T (fits binary64 x) → Positive (to_bits binary64 x) → HasValue x false (units (to_bits binary64 x)) (2 ^ 1074)
number x t h = subst (λ (y : Float). HasValue y false (units (to_bits binary64 x)) (2 ^ 1074)) (of_bits-to_bits binary64 x t) (value (to_bits binary64 x) h)
