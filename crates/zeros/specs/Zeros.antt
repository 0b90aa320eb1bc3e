-- What keeps a zero from being left out: -0.0, that it is taken from, and a factor that is an infinity or a NaN. Definitions only.
use Rattle.std.specs.Prelude.{ℕ, zero, suc, ◌≡◌, Bool, true, false, cond, T, Float}
use Rattle.std.specs.Float.{nan, inf, fin, binary64}
use Rattle.std.specs.Float.Ieee.{fits}
use Rattle.std.specs.Float.Ieee.Scale.{finite}

unfoldable pub minus_zero : Float → Bool
minus_zero nan = false
minus_zero (inf s) = false
minus_zero (fin true zero e) = true
minus_zero (fin true (suc m) e) = false
minus_zero (fin false m e) = false

-- an f64 that is not -0.0
pub record Firm (x : Float) : Type 0 where
  pub held : T (fits binary64 x)
  pub sign : minus_zero x ≡ false

-- how often a number is -0.0, and how often it is an infinity or a NaN: once or not
unfoldable pub minus_zero_of : Float → ℕ
unfolding minus_zero
minus_zero_of x = cond {A = ℕ} (minus_zero x) 1 0

unfoldable pub endless_of : Float → ℕ
endless_of x = cond {A = ℕ} (finite x) 0 1
