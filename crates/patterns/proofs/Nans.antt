-- What `x != x` says, and which patterns are a NaN's. Assumes nothing.
use mathlib.Core.Path.{◌≡◌, refl, sym, ◌∙◌, subst}
use mathlib.Core.Bool.{Bool, true, false, not}
use Prim.Native.Nat.{ℕ, ◌*◌, ◌%◌, ◌^◌, ◌≤◌, ◌<◌}
use lib.Dec.{T}
use lib.Ieee.{Float, nan, inf, fin, binary64, ne, eq, is_nan, of_bits, nan_bits}
use lib.Ieee.Bits.{nan_bits_is, nan_bits_above}
use lib.Ieee.Compare.{differs_from_itself}
use borrow.Author.Tests.{lt-ltb, le-ltb}

pub is_nan_lem : (x : Float) → ne x x ≡ true → x ≡ nan
is_nan_lem x h = differs_from_itself x (subst T (sym h) tt)

pub not_nan : (x : Float) → ne x x ≡ false → is_nan x ≡ false
unfolding ne eq is_nan
not_nan nan h = h
not_nan (inf s) h = refl
not_nan (fin s m e) h = refl

-- `not-nan`, as reading the pattern of x asks it
pub has_pattern : (x : Float) → ne x x ≡ false → T (not (is_nan x))
has_pattern x h = subst (λ (b : Bool). T (not b)) (sym (not_nan x h)) tt

nan_only : (x : Float) → is_nan x ≡ true → x ≡ nan
unfolding is_nan
nan_only nan h = refl
nan_only (inf s) h = absurd (subst T (sym h) tt)
nan_only (fin s m e) h = absurd (subst T (sym h) tt)

-- a pattern above that of the infinity, the sign apart, is a NaN's, and no other is
pub to_nan : (p : ℕ) → 2047 * 2 ^ 52 < p % 2 ^ 63 → of_bits binary64 p ≡ nan
to_nan p h = nan_only _ (sym (nan_bits_is binary64 p) ∙ nan_bits_above binary64 p ∙ lt-ltb (2047 * 2 ^ 52) (p % 2 ^ 63) h)

pub no_nan : (p : ℕ) → p % 2 ^ 63 ≤ 2047 * 2 ^ 52 → T (not (nan_bits binary64 p))
no_nan p h = subst (λ (t : Bool). T (not t)) (sym (nan_bits_above binary64 p ∙ le-ltb (2047 * 2 ^ 52) (p % 2 ^ 63) h)) tt
