-- pipe.rs: a pipe's coefficients by Hazen-Williams, and its change of status. Definitions only.
use Rattle.std.specs.Prelude.{Bool, cond, Float}
use Rattle.std.specs.Float.Ieee.{lt}
use Rattle.float.specs.Sign.{abs_of, signum_of}
use Rattle.roots.specs.Root.{root_of}
use Rattle.float.specs.WholePower.{whole_power}
use Rattle.power.specs.Power.{power_of}
use Rattle.codes.specs.declared.Status.{Status}
use Rattle.codes.specs.declared.Status.TheVariants.{Closed, Open, Active, TempClosed, FixedClosed, FixedOpen, XPressure, Xhead}
use Rattle.constants.specs.Arithmetic.{plus, minus, times, over}
use Rattle.constants.specs.Constants.{zero, half, one, two, big_value, q_zero, cv_head_epsilon, rq_tol, h_exponent}
use Rattle.coefficient.specs.Link.{simple_of, high_resistance}
use Rattle.coefficient.specs.declared.Coefficients.{Coefficients}
use Rattle.pipes.specs.declared.Loss.{Loss}

abbrev pub loss : Float → Float → Loss
loss g l = record { hgrad = g; hloss = l }

-- friction: n * r * |q| ^ 0.852, linear below RQ_TOL
unfoldable pub friction_of : Float → Float → Loss
friction_of qAbs r =
    let hgrad = times (times h_exponent r) (power_of qAbs) in
    cond (lt hgrad rq_tol)
    (loss rq_tol (times rq_tol qAbs))
    (loss hgrad (over (times hgrad qAbs) h_exponent))

-- the contribution of minor losses
unfoldable pub with_minor : Loss → Float → Float → Loss
with_minor l ml qAbs =
    cond (lt zero ml)
    (loss (plus l.hgrad (times (times two ml) qAbs)) (plus l.hloss (times ml (whole_power qAbs 2))))
    l

-- `add_cv_head_loss`
unfoldable pub with_barrier : Float → Float → Float → Coefficients
with_barrier q gInv y =
    let pipeHgrad = over one gInv in
    let pipeHloss = times y pipeHgrad in
    let a = times big_value (plus q q_zero) in
    let b = root_of (plus (times a a) cv_head_epsilon) in
    let hloss = plus pipeHloss (times (minus a b) half) in
    let hgrad = plus pipeHgrad (times (times big_value (minus one (over a b))) half) in
    simple_of (over one hgrad) (over hloss hgrad)

-- the loss with the sign of the flow, then the barrier of a check valve
unfoldable pub signed_of : Bool → Float → Loss → Coefficients
signed_of check q l =
    let hloss = times l.hloss (signum_of q) in
    let gInv = over one l.hgrad in
    let y = over hloss l.hgrad in
    cond check (with_barrier q gInv y) (simple_of gInv y)

unfoldable pub carrying : Bool → Float → Float → Float → Coefficients
carrying check ml r q = signed_of check q (with_minor (friction_of (abs_of q) r) ml (abs_of q))

-- `Pipe::coefficients`: only Closed and TempClosed shut a pipe
unfoldable pub pipe_of : Bool → Float → Float → Status → Float → Coefficients
pipe_of check ml r Closed q = high_resistance q
pipe_of check ml r TempClosed q = high_resistance q
pipe_of check ml r Open q = carrying check ml r q
pipe_of check ml r Active q = carrying check ml r q
pipe_of check ml r FixedClosed q = carrying check ml r q
pipe_of check ml r FixedOpen q = carrying check ml r q
pipe_of check ml r XPressure q = carrying check ml r q
pipe_of check ml r Xhead q = carrying check ml r q
