-- A NaN pressure is too low, and where there is a demand every pressure is below a lowest one of NaN. Assumes nothing.
use mathlib.Core.Path.{◌≡◌, refl}
use mathlib.Core.Bool.{Bool, true, false, not, ◌||◌}
use lib.Ieee.{Float, nan, inf, fin, lt, le}
use Rattle.constants.specs.Constants as constant
use Rattle.pressures_low.specs.Low.{too_low}

at_least_nan : (x : Float) → le nan x ≡ false
unfolding le
at_least_nan x = refl

nan_at_least : (x : Float) → le x nan ≡ false
unfolding le
nan_at_least nan = refl
nan_at_least (inf s) = refl
nan_at_least (fin s m e) = refl

pub nan_low : (demand lowest : Float) → too_low demand nan lowest ≡ true
unfolding too_low
nan_low demand lowest = rw (nan_at_least constant.zero)

either : (a : Bool) → (a || true) ≡ true
either true = refl
either false = refl

pub low_under_nan : (demand pressure : Float) → lt constant.zero demand ≡ true → too_low demand pressure nan ≡ true
unfolding too_low
low_under_nan demand pressure h = rw (h, at_least_nan pressure) (either (not (le constant.zero pressure)))
