-- The cases of `powerBy`. Assumes nothing.
use mathlib.Core.Path.{◌≡◌, ap, ◌∙◌}
use mathlib.Core.Bool.{false}
use mathlib.Core.List.{List}
use Prim.Native.Nat.{ℕ, ◌-◌, ◌*◌, ◌/◌, ◌%◌, ◌^◌, ◌≤◌, ◌<◌}
use native.Mathlib.Omega.{arith}
use lib.Ieee.{Float, nan, inf, binary64, ne, to_bits, of_bits}
use borrow.Author.Tests.{lt-ltb, le-ltb, le-leb, lt-leb, eq-eqb, ne_eqb}
use Rattle.power.specs.Power.{power_by, power_bits, between}
use Rattle.patterns.proofs.Nans.{not_nan}

pub at_pattern : (t : List ℕ) (x : Float) → ne x x ≡ false → power_by t x ≡ power_bits t (to_bits binary64 x)
unfolding power_by
at_pattern t x h = simp (not_nan x h)

module _ (t : List ℕ) (p : ℕ) where
  pub minus_zero_lem : p ≡ 2 ^ 63 → power_bits t p ≡ of_bits binary64 0
  unfolding power_bits
  minus_zero_lem h = simp (eq-eqb p (2 ^ 63) h)

  pub below_zero : 2 ^ 63 < p → power_bits t p ≡ nan
  unfolding power_bits
  below_zero h = simp (ne_eqb p (2 ^ 63) (λ e. omega arith), lt-ltb (2 ^ 63) p h)

  pub tiny : p < 959 * 2 ^ 52 → power_bits t p ≡ of_bits binary64 0
  unfolding power_bits
  tiny h = simp (ne_eqb p (2 ^ 63) (λ e. omega arith), le-ltb (2 ^ 63) p (omega arith), lt-ltb p (959 * 2 ^ 52) h)

  pub huge : 1087 * 2 ^ 52 ≤ p → p < 2 ^ 63 → power_bits t p ≡ inf false
  unfolding power_bits
  huge h k = simp (ne_eqb p (2 ^ 63) (λ e. omega arith), le-ltb (2 ^ 63) p (omega arith), le-ltb p (959 * 2 ^ 52) (omega arith), le-leb (1087 * 2 ^ 52) p h)

  pub middle : 959 * 2 ^ 52 ≤ p → p < 1087 * 2 ^ 52 → power_bits t p ≡ between t (p / 2 ^ 42 % 1024) (p % 2 ^ 42) (1086 - p / 2 ^ 52)
  unfolding power_bits
  middle h k = simp (ne_eqb p (2 ^ 63) (λ e. omega arith), le-ltb (2 ^ 63) p (omega arith), le-ltb p (959 * 2 ^ 52) h, lt-leb (1087 * 2 ^ 52) p k)

-- tables that are equal give equal powers
pub by_equal : (t l : List ℕ) (x r : Float) → l ≡ t → r ≡ power_by l x → r ≡ power_by t x
by_equal t l x r e f = f ∙ ap (λ (m : List ℕ). power_by m x) e
