-- The theorem: a check valve's barrier leaves a pipe with a conductance above zero, for every flow that is not wild. Assumes nothing.
use mathlib.Core.Path.{◌≡◌, sym, ap, ◌∙◌, subst}
use mathlib.Core.Logic.{⊎_elim, ◌⊎◌, inl, inr}
use mathlib.Core.Bool.{true, false, true≢false}
use Prim.Native.Nat.{ℕ, ◌*◌, ◌^◌}
use native.Mathlib.Nat.{lt_of_le_of_lt, lt_of_lt_of_le, le_of_eq, zero-mul, mul-one, mul-pos}
use lib.Count.{count_trailing_zeros}
use lib.Dec.{T, ltb→lt}
use lib.IntN.{ℤ, pos, negsuc}
use lib.Ieee.{Float, nan, inf, fin, binary64, up, down, round, units, odd, size, span, climb, mul, add, div, neg, sum, le, lt, eq, of_bits, of_fields}
use lib.Ieee.Exact.{HasValue}
use lib.Ieee.Fits.{up_pos}
use lib.Ieee.Positive.{positive, num, den, between}
use lib.Ieee.Scale.{grid}
use borrow.Author.Tests.{lt-ltb}
use Rattle.float.specs.Order.{wild_of}
use Rattle.roots.specs.Root.{root_of}
use Rattle.constants.specs.Arithmetic.{plus, times, over}
use Rattle.constants.specs.Constants.{zero, one, big_value, q_zero, cv_head_epsilon, rq_tol}
use Rattle.coefficient.specs.Link.{simple_of}
use Rattle.pipes.specs.Pipe.{with_barrier}
use Rattle.barrier.specs.Barrier.{least, BarrierConducts}
use Rattle.barrier.proofs.Nonnegative.{positive_nonnegative, either_way, mul_is}
use Rattle.barrier.proofs.Bounds.{Bounded, origin, from_origin, exactly, positive_bounded, times_bounded, plus_bounded, over_bounded}
use Rattle.barrier.proofs.Signs.{Sized, plus_sized, mul_neg, neg_square, neg_div}
use Rattle.barrier.proofs.Quotient.{above_one, whole_value, root_positive, ratio_bounded}
use Rattle.barrier.proofs.Slope.{one_held, big_bounded, gradient, gradient-bounded}

-- ---- the flow: its size is at most 2 ^ 64
zero_bounded : Bounded (fin false 1 (negsuc 19)) q_zero (fin false 1 (negsuc 18))
unfolding le lt eq of_bits of_fields odd count_trailing_zeros
zero_bounded = record { low = tt; held = tt; high = tt; least = tt; most = tt }

flow_tests : T (le origin (plus origin (fin false 1 (negsuc 19)))) × T (le (plus (fin false 1 (pos 64)) (fin false 1 (negsuc 18))) (fin false 1 (pos 65)))
    × T (le origin (times (fin false 1 (pos 26)) origin)) × T (le (times (fin false 1 (pos 27)) (fin false 1 (pos 65))) (fin false 1 (pos 92)))
unfolding le lt eq mul add sum round units odd size span climb count_trailing_zeros
flow_tests = (tt, tt, tt, tt)

calm : (m : ℕ) (e : ℤ) → le (fin false 1 (pos 64)) (fin false m e) ≡ false → Bounded origin (fin false m e) (fin false 1 (pos 64))
calm m e h = record { low = tt; held = tt; high = tt; least = from_origin (fin false m e) tt; most = ⊎_elim (λ l. l) (λ (k : T (le (fin false 1 (pos 64)) (fin false m e))). absurd (subst T h k)) (either_way (fin false m e) (fin false 1 (pos 64)) tt tt) }

moved : (q : Float) → wild_of q ≡ false → Sized (plus q q_zero) (fin false 1 (pos 65))
unfolding wild_of
moved nan h = absurd (true≢false h)
moved (inf s) h = absurd (true≢false h)
moved (fin s m e) h =
    plus_sized binary64 s m e q_zero (fin false 1 (pos 65)) zero_bounded.held
    (plus_bounded binary64 (calm m e h) zero_bounded origin (fin false 1 (pos 65)) tt tt flow_tests.0 flow_tests.1)

-- ---- a / b, with the sign of a
abbrev ratio : Float → Float
ratio a = over a (root_of (plus (times a a) cv_head_epsilon))

-- s is the size of q + QZERO
module _ (s : Float) (b : Bounded origin s (fin false 1 (pos 65))) where
  abbrev a : Float
  a = times big_value s

  a_bounded : Bounded origin a (fin false 1 (pos 92))
  a_bounded = times_bounded binary64 big_bounded b origin (fin false 1 (pos 92)) tt tt flow_tests.2 flow_tests.3

  abbrev n : ℕ
  n = grid binary64 (num big_value * num s) (den big_value * den s)

  a_value : HasValue a false n (2 ^ 1074)
  a_value = whole_value a (num big_value * num s) (den big_value * den s) (mul_is binary64 big_value s big_bounded.held b.held) a_bounded.held

  size_bounded : Bounded origin (ratio a) above_one
  size_bounded = ratio_bounded a n a_value a_bounded

  ratio_neg : ratio (neg a) ≡ neg (ratio a)
  ratio_neg =
      ap (λ (z : Float). over (neg a) (root_of (plus z cv_head_epsilon))) (neg_square binary64 a a_bounded.held)
      ∙ neg_div binary64 a (root_of (plus (times a a) cv_head_epsilon)) a_bounded.held (root_positive a n a_value a_bounded)

  by_sign : (x : Float) → (x ≡ s) ⊎ (x ≡ neg s) → (ratio (times big_value x) ≡ ratio a) ⊎ (ratio (times big_value x) ≡ neg (ratio a))
  by_sign x (inl e) = inl (ap (λ (z : Float). ratio (times big_value z)) e)
  by_sign x (inr e) = inr (ap (λ (z : Float). ratio (times big_value z)) e ∙ ap ratio (mul_neg binary64 big_value s big_bounded.held b.held) ∙ ratio_neg)

-- ---- the pipe's own gradient
limit_positive : T (positive (over one rq_tol))
unfolding div round units odd size span climb count_trailing_zeros of_bits of_fields
limit_positive = tt

own_tests : T (le (fin false 1 (negsuc 23)) (over one (over one rq_tol))) × T (le (over one least) (fin false 1 (pos 200)))
unfolding le lt eq div round units odd size span climb count_trailing_zeros of_bits of_fields
own_tests = (tt, tt)

own : (g : Float) → T (le least g) → T (le g (over one rq_tol)) → Bounded (fin false 1 (negsuc 23)) (over one g) (fin false 1 (pos 200))
own g l h =
    over_bounded binary64 (exactly one one_held)
    (record { low = tt; held = positive_nonnegative g (between least g (over one rq_tol) tt limit_positive l h); high = positive_nonnegative (over one rq_tol) limit_positive; least = l; most = h })
    (fin false 1 (negsuc 23)) (fin false 1 (pos 200)) tt tt tt own_tests.0 own_tests.1

-- ---- one over the gradient
last_tests : T (le (fin false 1 (negsuc 200)) (over one (fin false 1 (pos 201)))) × T (le (over one (fin false 1 (negsuc 24))) (fin false 1 (pos 25)))
unfolding le lt eq div round units odd size span climb count_trailing_zeros of_bits of_fields
last_tests = (tt, tt)

above_zero : (x : Float) → T (positive x) → lt zero x ≡ true
unfolding lt of_bits of_fields odd
above_zero nan p = absurd p
above_zero (inf s) p = absurd p
above_zero (fin true m e) p = absurd p
above_zero (fin false m e) p =
    lt-ltb (0 * down e) (m * up e * 1)
    (lt_of_le_of_lt (le_of_eq (zero-mul (down e))) (lt_of_lt_of_le (mul-pos (ltb→lt 0 m p) (up_pos e)) (le_of_eq (sym (mul-one (m * up e))))))

conducts : (g x : Float) → Bounded (fin false 1 (negsuc 24)) (gradient g x) (fin false 1 (pos 201)) → lt zero (over one (gradient g x)) ≡ true
conducts g x b =
    above_zero (over one (gradient g x))
    (positive_bounded {lo = fin false 1 (negsuc 200)} {hi = fin false 1 (pos 25)} tt
    (over_bounded binary64 (exactly one one_held) b (fin false 1 (negsuc 200)) (fin false 1 (pos 25)) tt tt tt last_tests.0 last_tests.1))

pub barrier_conducts : BarrierConducts
unfolding with_barrier simple_of
barrier_conducts q gInv y w l h =
    let m = moved q w in
    conducts (over one gInv) (ratio (times big_value (plus q q_zero)))
    (gradient-bounded (over one gInv) (own gInv l h) (ratio (a m.size m.bound)) (size_bounded m.size m.bound) (ratio (times big_value (plus q q_zero))) (by_sign m.size m.bound (plus q q_zero) m.is))
