-- The gradient of a pipe with a barrier: the pipe's own, at least 2 ^ -24, and BIG * (1 - r) / 2 for an r that is at most 1 + 2 ^ -51 in size. What that takes away at most is 2 ^ -25. Assumes nothing.
use mathlib.Core.Path.{◌≡◌, sym, ap, ◌∙◌, subst}
use mathlib.Core.Logic.{⊎_elim, ◌⊎◌, inl, inr}
use mathlib.Core.Bool.{false}
use lib.Count.{count_trailing_zeros}
use lib.Dec.{T}
use lib.IntN.{pos, negsuc}
use lib.Ieee.{Float, fin, binary64, round, units, odd, size, span, climb, mul, add, sub, neg, sum, le, lt, eq, of_bits, of_fields}
use Rattle.constants.specs.Arithmetic.{plus, minus, times}
use Rattle.constants.specs.Constants.{half, one, big_value}
use Rattle.barrier.proofs.Nonnegative.{nonnegative, either_way}
use Rattle.barrier.proofs.Bounds.{Bounded, origin, exactly, wider, times_bounded, plus_bounded, minus_bounded}
use Rattle.barrier.proofs.Signs.{mul_neg, neg_mul, sub_neg, add_neg, flipped}
use Rattle.barrier.proofs.Quotient.{above_one}

-- ---- the constants
pub one_held : T (nonnegative one)
unfolding of_bits of_fields odd count_trailing_zeros
one_held = tt

pub big_bounded : Bounded (fin false 1 (pos 26)) big_value (fin false 1 (pos 27))
unfolding le lt eq of_bits of_fields odd count_trailing_zeros
big_bounded = record { low = tt; held = tt; high = tt; least = tt; most = tt }

half_bounded : Bounded (fin false 1 (negsuc 0)) half (fin false 1 (negsuc 0))
unfolding le lt eq of_bits of_fields odd count_trailing_zeros
half_bounded = record { low = tt; held = tt; high = tt; least = tt; most = tt }

-- ---- what is added: BIG times t, halved
abbrev added : Float → Float
added t = times (times big_value t) half

added_tests : T (le origin (times (fin false 1 (pos 26)) origin)) × T (le (times (fin false 1 (pos 27)) (fin false 1 (pos 2))) (fin false 1 (pos 29)))
    × T (le origin (times origin (fin false 1 (negsuc 0)))) × T (le (times (fin false 1 (pos 29)) (fin false 1 (negsuc 0))) (fin false 1 (pos 28)))
unfolding le lt eq mul round units odd size span climb count_trailing_zeros
added_tests = (tt, tt, tt, tt)

added_bounded : (t : Float) → Bounded origin t (fin false 1 (pos 2)) → Bounded origin (added t) (fin false 1 (pos 28))
added_bounded t b =
    times_bounded binary64 (times_bounded binary64 big_bounded b origin (fin false 1 (pos 29)) tt tt added_tests.0 added_tests.1) half_bounded origin (fin false 1 (pos 28)) tt tt added_tests.2 added_tests.3

taken_tests : T (le origin (times (fin false 1 (pos 26)) origin)) × T (le (times (fin false 1 (pos 27)) (fin false 1 (negsuc 50))) (fin false 1 (negsuc 23)))
    × T (le origin (times origin (fin false 1 (negsuc 0)))) × T (le (times (fin false 1 (negsuc 23)) (fin false 1 (negsuc 0))) (fin false 1 (negsuc 24)))
unfolding le lt eq mul round units odd size span climb count_trailing_zeros
taken_tests = (tt, tt, tt, tt)

module _ (t : Float) (b : Bounded origin t (fin false 1 (negsuc 50))) where
  first_bounded : Bounded origin (times big_value t) (fin false 1 (negsuc 23))
  first_bounded = times_bounded binary64 big_bounded b origin (fin false 1 (negsuc 23)) tt tt taken_tests.0 taken_tests.1

  taken_bounded : Bounded origin (added t) (fin false 1 (negsuc 24))
  taken_bounded = times_bounded binary64 first_bounded half_bounded origin (fin false 1 (negsuc 24)) tt tt taken_tests.2 taken_tests.3

  taken_is : added (neg t) ≡ neg (added t)
  taken_is =
      ap (λ (z : Float). times z half) (mul_neg binary64 big_value t big_bounded.held b.held) ∙ neg_mul binary64 (times big_value t) half first_bounded.held half_bounded.held

-- ---- the gradient
abbrev pub gradient : Float → Float → Float
gradient g r = plus g (added (minus one r))

abbrev Gradient : Float → Type 0
Gradient x = Bounded (fin false 1 (negsuc 24)) x (fin false 1 (pos 201))

gradient_tests : T (le (fin false 1 (negsuc 24)) (plus (fin false 1 (negsuc 23)) origin)) × T (le (plus (fin false 1 (pos 200)) (fin false 1 (pos 28))) (fin false 1 (pos 201)))
    × T (le (fin false 1 (negsuc 24)) (fin false 1 (negsuc 23))) × T (le (fin false 1 (negsuc 24)) (minus (fin false 1 (negsuc 23)) (fin false 1 (negsuc 24))))
    × T (le (minus (fin false 1 (pos 200)) origin) (fin false 1 (pos 201)))
unfolding le lt eq add sub neg sum round units odd size span climb count_trailing_zeros
gradient_tests = (tt, tt, tt, tt, tt)

ratio_tests : T (le origin (plus one origin)) × T (le (plus one above_one) (fin false 1 (pos 2))) × T (le one one) × T (le origin (minus one one)) × T (le (minus one origin) (fin false 1 (pos 2)))
    × T (le (minus above_one one) (fin false 1 (negsuc 50))) × T (le origin origin) × T (le (fin false 1 (negsuc 50)) (fin false 1 (pos 2)))
unfolding le lt eq add sub neg sum round units odd size span climb count_trailing_zeros of_bits of_fields
ratio_tests = (tt, tt, tt, tt, tt, tt, tt, tt)

module _ (g : Float) (own : Bounded (fin false 1 (negsuc 23)) g (fin false 1 (pos 200))) where
  -- 1 - r is not negative
  more : (t : Float) → Bounded origin t (fin false 1 (pos 2)) → Gradient (plus g (added t))
  more t b = plus_bounded binary64 own (added_bounded t b) (fin false 1 (negsuc 24)) (fin false 1 (pos 201)) tt tt gradient_tests.0 gradient_tests.1

  -- or it is negative
  less : (t : Float) → Bounded origin t (fin false 1 (negsuc 50)) → Gradient (plus g (added (neg t)))
  less t b =
      subst Gradient (sym (ap (λ (z : Float). plus g z) (taken_is t b) ∙ add_neg binary64 g (added t)))
      (minus_bounded binary64 own (taken_bounded t b) (fin false 1 (negsuc 24)) (fin false 1 (pos 201)) tt tt gradient_tests.2 gradient_tests.3 gradient_tests.4)

  module _ (r : Float) (b : Bounded origin r above_one) where
    -- r up to 1
    up-to-one : T (le r one) → Gradient (gradient g r)
    up-to-one h =
        more (minus one r)
        (minus_bounded binary64 (exactly one one_held) (record { low = tt; held = b.held; high = one_held; least = b.least; most = h }) origin (fin false 1 (pos 2)) tt tt ratio_tests.2 ratio_tests.3 ratio_tests.4)

    -- r from 1 on
    from_one : T (le one r) → Gradient (gradient g r)
    from_one h =
        let t = minus r one in
        let c : Bounded origin t (fin false 1 (negsuc 50)) =
        minus_bounded binary64 (record { low = one_held; held = b.held; high = tt; least = h; most = b.most }) (exactly one one_held) origin (fin false 1 (negsuc 50)) tt tt ratio_tests.2 ratio_tests.3 ratio_tests.5 in
        ⊎_elim
        (λ (e : minus one r ≡ neg t). subst (λ (z : Float). Gradient (plus g (added z))) (sym e) (less t c))
        (λ (e : minus one r ≡ t). subst (λ (z : Float). Gradient (plus g (added z))) (sym e) (more t (wider c origin (fin false 1 (pos 2)) tt tt ratio_tests.6 ratio_tests.7)))
        (flipped binary64 one r one_held b.held h)

    forward : Gradient (gradient g r)
    forward = ⊎_elim up-to-one from_one (either_way r one b.held one_held)

    backward : Gradient (gradient g (neg r))
    backward =
        subst (λ (z : Float). Gradient (plus g (added z))) (sym (sub_neg binary64 one r one_held b.held))
        (more (plus one r) (plus_bounded binary64 (exactly one one_held) b origin (fin false 1 (pos 2)) tt tt ratio_tests.0 ratio_tests.1))

    pub gradient-bounded : (x : Float) → (x ≡ r) ⊎ (x ≡ neg r) → Bounded (fin false 1 (negsuc 24)) (gradient g x) (fin false 1 (pos 201))
    gradient-bounded x (inl e) = subst (λ (z : Float). Gradient (gradient g z)) (sym e) forward
    gradient-bounded x (inr e) = subst (λ (z : Float). Gradient (gradient g z)) (sym e) backward
