-- What is within a tolerance, and what is not. Assumes nothing.
use mathlib.Core.Path.{◌≡◌, refl, sym, subst}
use mathlib.Core.Bool.{Bool, true, false, ◌&&◌}
use Prim.Native.Nat.{ℕ, ◌+◌, ◌*◌, ◌<◌}
use native.Mathlib.Nat.{zero-mul, not-suc-le-zero, mul-pos}
use native.Mathlib.Omega.{arith}
use lib.Dec.{T, eqb}
use lib.IntN.{pos}
use lib.Ieee.{Float, nan, inf, fin, le, lt, eq, up, down}
use lib.Ieee.Fits.{down_pos}
use borrow.Author.Tests.{ltb-true, eqb-true, ne_eqb}
use Rattle.float.specs.Sign.{abs_of}
use Rattle.tolerance.specs.Within.{within_of}

pub within_is : (x tolerance size : Float) → size ≡ abs_of x → le size tolerance ≡ within_of x tolerance
unfolding within_of
within_is x tolerance size h = rw h

-- a NaN is within nothing
pub nan_within_none : (tolerance : Float) → within_of nan tolerance ≡ false
unfolding within_of abs_of le lt eq
nan_within_none nan = refl
nan_within_none (inf s) = refl
nan_within_none (fin s m e) = refl

-- nothing is within NaN
pub none_within_nan : (x : Float) → within_of x nan ≡ false
unfolding within_of abs_of le lt eq
none_within_nan nan = refl
none_within_nan (inf s) = refl
none_within_nan (fin s m e) = refl

clash : {X : Type 0} → false ≡ true → X
clash h = absurd (subst T (sym h) tt)

-- a magnitude does not meet what is below 0
apart : (a b : ℕ) (t : Bool) → 0 < b → eqb a b ≡ t → (t && eqb a 0) ≡ false
apart a b false h e = refl
apart a b true h e = let f : a ≡ b = eqb-true a b e in ne_eqb a 0 (λ z. omega arith)

-- nothing is within a tolerance below 0
pub none_within_negative : (x tolerance : Float) → lt tolerance (fin false 0 (pos 0)) ≡ true → within_of x tolerance ≡ false
unfolding within_of abs_of le lt eq
none_within_negative x nan h = clash h
none_within_negative x (inf false) h = clash h
none_within_negative x (fin false n d) h = absurd (not-suc-le-zero (subst (λ (k : ℕ). n * up d * 1 < k) (zero-mul (down d)) (ltb-true _ _ h)))
none_within_negative nan (inf true) h = refl
none_within_negative (inf s) (inf true) h = refl
none_within_negative (fin s m e) (inf true) h = refl
none_within_negative nan (fin true n d) h = refl
none_within_negative (inf s) (fin true n d) h = refl
none_within_negative (fin s m e) (fin true n d) h =
    let low : 0 < n * up d * 1 + 0 * down d = ltb-true _ _ h in
    apart (m * up e * down d) (n * up d * down e) _ (mul-pos (omega (arith, low, zero-mul (down d))) (down_pos e)) refl
