-- From a factor from 0.25 to 1 the next factor is from 0.25 to 1, for every change, previous change and limit, NaN included. Assumes nothing.
use mathlib.Core.Path.{◌≡◌, refl}
use mathlib.Core.Bool.{Bool, true, false, ◌&&◌, cond}
use lib.Count.{count_trailing_zeros}
use lib.Dec.{T}
use lib.Ieee.{Float, nan, inf, fin, binary64, lt, le, eq, mul, round, units, odd, size, span, climb, of_bits, of_fields, is_nan}
use lib.Ieee.Positive.{positive, between, mul_mono, cross→le, le_trans_positive}
use borrow.Author.Tests.{ltb-false}
use Rattle.float.specs.Order.{larger_of, smaller_of}
use Rattle.constants.specs.Arithmetic.{times}
use Rattle.constants.specs.Constants.{quarter, half, one, six_fifths}
use Rattle.damping.specs.Damping.{damped_of, InRange}

either : (P : Float → Type 0) (t : Bool) (x y : Float) → (t ≡ true → P x) → (t ≡ false → P y) → P (cond t x y)
either P true x y f g = f refl
either P false x y f g = g refl

not_below : (x y : Float) → T (positive x) → T (positive y) → lt y x ≡ false → T (le x y)
unfolding lt
not_below nan y p q h = absurd p
not_below (inf s) y p q h = absurd p
not_below (fin true m e) y p q h = absurd p
not_below (fin false m e) nan p q h = absurd q
not_below (fin false m e) (inf s) p q h = absurd q
not_below (fin false m e) (fin true n d) p q h = absurd q
not_below (fin false m e) (fin false n d) p q h = cross→le (fin false m e) (fin false n d) p q (ltb-false _ _ h)

quarter_in : InRange quarter
unfolding le lt eq of_bits of_fields odd count_trailing_zeros
quarter_in = record { least = tt; most = tt }

one_in : InRange one
unfolding le lt eq of_bits of_fields odd count_trailing_zeros
one_in = record { least = tt; most = tt }

quarter_positive : T (positive quarter)
unfolding of_bits of_fields odd count_trailing_zeros
quarter_positive = tt

one_positive : T (positive one)
unfolding of_bits of_fields odd count_trailing_zeros
one_positive = tt

half_above : T (positive half)
unfolding of_bits of_fields odd count_trailing_zeros
half_above = tt

half_one : T (le half one)
unfolding le lt eq of_bits of_fields odd count_trailing_zeros
half_one = tt

module _ (x : Float) (r : InRange x) where
  above_zero : T (positive x)
  unfolding of_bits of_fields odd count_trailing_zeros
  above_zero = between quarter x one tt tt r.least r.most

  -- a factor is at most half, and above zero
  half_most : T (le (times x half) half)
  unfolding le lt eq mul round units size span climb of_bits of_fields odd count_trailing_zeros
  half_most = mul_mono binary64 x one half half above_zero tt tt tt r.most tt

  half_least : T (le (times quarter half) (times x half))
  unfolding le lt eq of_bits of_fields odd count_trailing_zeros
  half_least = mul_mono binary64 quarter x half half tt above_zero tt tt r.least tt

  half_positive : T (positive (times x half))
  unfolding mul round units size span climb of_bits of_fields odd count_trailing_zeros
  half_positive = between (times quarter half) (times x half) half tt tt half_least half_most

  halved : InRange (larger_of (times x half) quarter)
  unfolding larger_of
  halved =
      either InRange (is_nan (times x half)) quarter (cond (lt (times x half) quarter) quarter (times x half)) (λ n. quarter_in)
      (λ n. either InRange (lt (times x half) quarter) quarter (times x half) (λ l. quarter_in) (λ l. record { least = low l; most = high }))
    where
      low : lt (times x half) quarter ≡ false → T (le quarter (times x half))
      low l = not_below quarter (times x half) quarter_positive half_positive l

      high : T (le (times x half) one)
      high = le_trans_positive (times x half) half one half_positive half_above one_positive half_most half_one

  -- 1.2 factors are at least 0.25
  more_least : T (le (times quarter six_fifths) (times x six_fifths))
  unfolding le lt eq of_bits of_fields odd count_trailing_zeros
  more_least = mul_mono binary64 quarter x six_fifths six_fifths tt above_zero tt tt r.least tt

  more_most : T (le (times x six_fifths) six_fifths)
  unfolding le lt eq mul round units size span climb of_bits of_fields odd count_trailing_zeros
  more_most = mul_mono binary64 x one six_fifths six_fifths above_zero tt tt tt r.most tt

  more_positive : T (positive (times x six_fifths))
  unfolding mul round units size span climb of_bits of_fields odd count_trailing_zeros
  more_positive = between (times quarter six_fifths) (times x six_fifths) six_fifths tt tt more_least more_most

  quarter_least : T (le quarter (times x six_fifths))
  unfolding le lt eq mul round units size span climb of_bits of_fields odd count_trailing_zeros
  quarter_least = le_trans_positive quarter (times quarter six_fifths) (times x six_fifths) tt tt more_positive tt more_least

  eased : InRange (smaller_of (times x six_fifths) one)
  unfolding smaller_of
  eased =
      either InRange (is_nan (times x six_fifths)) one (cond (lt one (times x six_fifths)) one (times x six_fifths)) (λ n. one_in)
      (λ n. either InRange (lt one (times x six_fifths)) one (times x six_fifths) (λ l. one_in) (λ l. record { least = quarter_least; most = not_below (times x six_fifths) one more_positive one_positive l }))

  pub in_range : (previous change limit : Float) → InRange (damped_of x previous change limit)
  unfolding damped_of
  in_range previous change limit =
      either InRange (lt previous change && lt change limit) _ _ (λ a. halved)
      (λ a. either InRange (lt change (times previous half)) _ _ (λ b. one_in) (λ b. either InRange (lt change previous) _ _ (λ d. eased) (λ d. r)))
