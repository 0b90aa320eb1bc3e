-- A pipe conducts, with a check valve's barrier too. Assumes nothing.
use mathlib.Core.Path.{◌≡◌, refl}
use mathlib.Core.Bool.{Bool, true, false}
use Prim.Native.Nat.{ℕ, ◌≤◌}
use lib.Dec.{T, lit≤}
use lib.Ieee.{Float, nan, inf, fin, binary64, fits, lt, le}
use lib.Ieee.Positive.{positive, above_of_le}
use Rattle.float.specs.Sign.{abs_of}
use Rattle.float.specs.Order.{wild_of}
use Rattle.codes.specs.declared.Status.{Status}
use Rattle.codes.specs.declared.Status.TheVariants.{Closed, Open, Active, TempClosed, FixedClosed, FixedOpen, XPressure, Xhead}
use Rattle.constants.specs.Arithmetic.{plus, times, over}
use Rattle.constants.specs.Constants.{zero, one, two, big_value, rq_tol, h_exponent}
use Rattle.coefficient.specs.Link.{no_addition, simple_of}
use Rattle.power.specs.Power.{power_of}
use Rattle.pipes.specs.declared.Loss.{Loss}
use Rattle.pipes.specs.Pipe.{friction_of, with_minor, with_barrier, signed_of, carrying, pipe_of}
use Rattle.barrier.specs.Barrier.{least}
use Rattle.barrier.proofs.Theorem.{barrier_conducts}
use Rattle.conductances.specs.Conductances.{Conducts}
use Rattle.conductances.proofs.Grid.{clear, Size}
use Rattle.conductances.proofs.Sizes.{wider, mul_size, mul_clear, add_size, add_from}
use Rattle.conductances.proofs.Tests.{clear_of, positive_of, Firm, firm, tol_positive, tol_rounded, tol_itself, over_least, over_most, over_above}
use Rattle.conductances.proofs.Numbers.{two_size, two_clear, tol_size, exponent_size, abs_fits, tame_below, tame_size, tame_clear}
use Rattle.conductances.proofs.Powers.{power_size}
use Rattle.conductances.proofs.Simple.{either, simple, over_big}

clear_positive : (x : Float) → T (positive x) → T (clear x)
clear_positive nan p = absurd p
clear_positive (inf s) p = absurd p
clear_positive (fin true m e) p = absurd p
clear_positive (fin false m e) p = tt

tol_firm : Firm 105 rq_tol
tol_firm = record { positive_is = tol_positive; from_tol = tol_itself; size = wider rq_tol 0 105 (lit≤ tt) tol_size }

firmer : (h k : ℕ) (x : Float) → h ≤ k → Firm h x → Firm k x
firmer h k x l f = record { positive_is = f.positive_is; from_tol = f.from_tol; size = wider x h k l f.size }

module _ (ml r q : Float) (ml-size : Size 40 ml) (r-size : Size 40 r) (held : T (fits binary64 q)) (tame : wild_of q ≡ false) where
  -- friction: h_exponent * r * |q| ^ 0.852, or RQ_TOL
  friction_size : Size 105 (times (times h_exponent r) (power_of (abs_of q)))
  friction_size =
      mul_size (times h_exponent r) (power_of (abs_of q)) 41 64 (lit≤ tt) (mul_size h_exponent r 1 40 (lit≤ tt) exponent_size r-size)
      (power_size (abs_of q) (abs_fits q held) (tame_clear q tame) (tame_size q tame) (tame_below q tame))

  friction : Firm 105 (friction_of (abs_of q) r).hgrad
  unfolding friction_of
  friction =
      either (λ (l : Loss). Firm 105 l.hgrad) (lt (times (times h_exponent r) (power_of (abs_of q))) rq_tol) _ _ (λ t. tol_firm)
      (λ t. firm (times (times h_exponent r) (power_of (abs_of q))) 105 friction_size t)

  -- and 2 * ml * |q| where ml is above zero
  abbrev minor : Float
  minor = times (times two ml) (abs_of q)

  minor_size : Size 105 minor
  minor_size = mul_size (times two ml) (abs_of q) 41 64 (lit≤ tt) (mul_size two ml 1 40 (lit≤ tt) two_size ml-size) (tame_size q tame)

  minor_clear : lt zero ml ≡ true → T (clear minor)
  minor_clear p =
      mul_clear (times two ml) (abs_of q) 41 64 (mul_size two ml 1 40 (lit≤ tt) two_size ml-size) (tame_size q tame)
      (mul_clear two ml 1 40 two_size ml-size two_clear (clear_of ml p)) (tame_clear q tame)

  sum : (x : Float) → Firm 105 x → lt zero ml ≡ true → Firm 106 (plus x minor)
  sum x f p =
      let a : Size 106 (plus x minor) = add_size x minor 105 (lit≤ tt) (clear_positive x f.positive_is) (minor_clear p) f.size minor_size in
      let l : T (le rq_tol (plus x minor)) = add_from rq_tol x minor 105 tol_rounded tol_positive f.positive_is f.from_tol (minor_clear p) minor_size in
      record { positive_is = positive_of (plus x minor) 106 a (above_of_le rq_tol (plus x minor) tol_positive l); from_tol = l; size = a }

  total : (l : Loss) → Firm 105 l.hgrad → Firm 200 (with_minor l ml (abs_of q)).hgrad
  unfolding with_minor
  total l f =
      either (λ (l : Loss). Firm 200 l.hgrad) (lt zero ml) _ _ (λ p. firmer 106 200 (plus l.hgrad minor) (lit≤ tt) (sum l.hgrad f p))
      (λ p. firmer 105 200 l.hgrad (lit≤ tt) f)

  -- one over the loss's slope is what the barrier takes
  guarded : (g y : Float) → T (le least g) → T (le g (over one rq_tol)) → Conducts (with_barrier q g y)
  unfolding with_barrier simple_of no_addition
  guarded g y l h = record { above = barrier_conducts q g y tame l h; no_start = refl; no_end = refl }

  signed : (check : Bool) (l : Loss) → Firm 200 l.hgrad → Conducts (signed_of check q l)
  unfolding signed_of
  signed check l f =
      either Conducts check _ _ (λ c. guarded (over one l.hgrad) _ (over_least l.hgrad f) (over_most l.hgrad f))
      (λ c. simple (over one l.hgrad) _ (over_above l.hgrad f))

  carries : (check : Bool) → Conducts (carrying check ml r q)
  unfolding carrying
  carries check = signed check (with_minor (friction_of (abs_of q) r) ml (abs_of q)) (total (friction_of (abs_of q) r) friction)

  pub pipe_conducts_lem : (check : Bool) (status : Status) → Conducts (pipe_of check ml r status q)
  unfolding pipe_of
  pipe_conducts_lem check Closed = simple (over one big_value) q over_big
  pipe_conducts_lem check TempClosed = simple (over one big_value) q over_big
  pipe_conducts_lem check Open = carries check
  pipe_conducts_lem check Active = carries check
  pipe_conducts_lem check FixedClosed = carries check
  pipe_conducts_lem check FixedOpen = carries check
  pipe_conducts_lem check XPressure = carries check
  pipe_conducts_lem check Xhead = carries check
