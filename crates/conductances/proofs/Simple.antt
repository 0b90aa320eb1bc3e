-- Coefficients of a conductance alone, with the constants' ones above zero. Assumes nothing.
use mathlib.Core.Path.{◌≡◌, refl}
use mathlib.Core.Bool.{Bool, true, false, cond}
use lib.Count.{count_trailing_zeros}
use lib.Ieee.{Float, lt, div, round, units, odd, size, span, climb, of_bits, of_fields}
use Rattle.constants.specs.Arithmetic.{over}
use Rattle.constants.specs.Constants.{zero, one, big_value, small_value, rq_tol}
use Rattle.coefficient.specs.Link.{no_addition, simple_of}
use Rattle.conductances.specs.Conductances.{Conducts}

pub either : {A : Type 0} (P : A → Type 0) (t : Bool) (x y : A) → (t ≡ true → P x) → (t ≡ false → P y) → P (cond t x y)
either P true x y f g = f refl
either P false x y f g = g refl

pub simple : (g y : Float) → lt zero g ≡ true → Conducts (simple_of g y)
unfolding simple_of no_addition
simple g y h = record { above = h; no_start = refl; no_end = refl }

pub big_above : lt zero big_value ≡ true
unfolding lt of_bits of_fields odd count_trailing_zeros
big_above = refl

pub over_big : lt zero (over one big_value) ≡ true
unfolding lt div round units size span climb of_bits of_fields odd count_trailing_zeros
over_big = refl

pub over_small : lt zero (over one small_value) ≡ true
unfolding lt div round units size span climb of_bits of_fields odd count_trailing_zeros
over_small = refl

pub over_tol : lt zero (over one rq_tol) ≡ true
unfolding lt div round units size span climb of_bits of_fields odd count_trailing_zeros
over_tol = refl
