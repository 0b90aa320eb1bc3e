-- What the code puts together from its calls' results is what the definitions say, over plain variables. Assumes nothing.
use mathlib.Core.Path.{◌≡◌}
use mathlib.Core.Bool.{Bool, true, false}
use mathlib.Core.List.{[], ◌∷◌}
use types.Run.{OneOf}
use lib.Ieee.{Float, lt}
use Rattle.power.specs.Power.{power_of}
use Rattle.float.specs.Sign.{abs_of, signum_of}
use Rattle.roots.specs.Root.{root_of}
use Rattle.codes.specs.Codes.{status_of}
use Rattle.codes.specs.declared.Status.{Status}
use Rattle.constants.specs.Arithmetic.{plus, minus, times, over}
use Rattle.constants.specs.Constants.{half, one, big_value, q_zero, cv_head_epsilon, rq_tol, h_exponent}
use Rattle.coefficient.specs.Link.{simple_of, high_resistance}
use Rattle.coefficient.specs.declared.Coefficients.{Coefficients}
use Rattle.status.proofs.Cases.{status_tag, of_status}
use Rattle.pipes.specs.Pipe.{loss, friction_of, with_minor, with_barrier, signed_of, carrying, pipe_of}
use Rattle.pipes.specs.declared.Loss.{Loss}

module _ (q r p : Float) (e : p ≡ power_of q) where
  pub friction_linear : lt (times (times h_exponent r) p) rq_tol ≡ true → loss rq_tol (times rq_tol q) ≡ friction_of q r
  unfolding friction_of
  friction_linear h = rw (← e, h)

  pub friction_curved : lt (times (times h_exponent r) p) rq_tol ≡ false → loss (times (times h_exponent r) p) (over (times (times (times h_exponent r) p) q) h_exponent) ≡ friction_of q r
  unfolding friction_of
  friction_curved h = rw (← e, h)

pub barrier : (q g y b : Float) (r : Coefficients) → b ≡ root_of (plus (times (times big_value (plus q q_zero)) (times big_value (plus q q_zero))) cv_head_epsilon) → r ≡ simple_of (over one (plus (over one g) (times (times big_value (minus one (over (times big_value (plus q q_zero)) b))) half))) (over (plus (times y (over one g)) (times (minus (times big_value (plus q q_zero)) b) half)) (plus (over one g) (times (times big_value (minus one (over (times big_value (plus q q_zero)) b))) half))) → r ≡ with_barrier q g y
unfolding with_barrier
barrier q g y b r e f = rw (f, e)

module _ (check : Bool) (ml r q : Float) where
  pub closed : (s : Status) → OneOf (0 ∷ 3 ∷ []) (status_tag s) → (c : Coefficients) → c ≡ high_resistance q → c ≡ pipe_of check ml r s q
  unfolding pipe_of status_of
  closed s h c e = of_status (λ (t : Status). c ≡ pipe_of check ml r t q) (0 ∷ 3 ∷ []) s h (e, (e, tt))

  flows : (s : Status) → OneOf (1 ∷ 2 ∷ 4 ∷ 5 ∷ 6 ∷ 7 ∷ []) (status_tag s) → (c : Coefficients) → c ≡ carrying check ml r q → c ≡ pipe_of check ml r s q
  unfolding pipe_of status_of
  flows s h c e = of_status (λ (t : Status). c ≡ pipe_of check ml r t q) (1 ∷ 2 ∷ 4 ∷ 5 ∷ 6 ∷ 7 ∷ []) s h (e, (e, (e, (e, (e, (e, tt))))))

  module _ (s : Status) (h : OneOf (1 ∷ 2 ∷ 4 ∷ 5 ∷ 6 ∷ 7 ∷ []) (status_tag s)) (size sign : Float) (f l : Loss) (c : Coefficients) (a : size ≡ abs_of q) (b : f ≡ friction_of size r) (d : l ≡ with_minor f ml size) (g : sign ≡ signum_of q) where
    pub barred : check ≡ true → c ≡ with_barrier q (over one l.hgrad) (over (times l.hloss sign) l.hgrad) → c ≡ pipe_of check ml r s q
    unfolding carrying signed_of
    barred t e = flows s h c is
      where
        is : c ≡ carrying check ml r q
        is = rw (e, d, b, a, g, t)

    pub free : check ≡ false → c ≡ simple_of (over one l.hgrad) (over (times l.hloss sign) l.hgrad) → c ≡ pipe_of check ml r s q
    unfolding carrying signed_of
    free t e = flows s h c is
      where
        is : c ≡ carrying check ml r q
        is = rw (e, d, b, a, g, t)
