-- valve.rs: the valves' coefficients. Definitions only.
use Rattle.std.specs.Prelude.{Float, Bool, true, false, cond}
use Rattle.std.specs.Float.Ieee.{lt, le, neg}
use Rattle.float.specs.Sign.{abs_of}
use Rattle.float.specs.Order.{smaller_of, clamp_of}
use Rattle.float.specs.WholePower.{whole_power}
use Rattle.codes.specs.declared.LinkKind.{LinkKind}
use Rattle.codes.specs.declared.LinkKind.TheVariants.{Pipe, Prv, Psv, Pbv, Fcv, Tcv, Pcv}
use Rattle.codes.specs.declared.Status.{Status}
use Rattle.codes.specs.declared.Status.TheVariants.{Closed, Open, Active, TempClosed, FixedClosed, FixedOpen, XPressure, Xhead}
use Rattle.records.specs.declared.records.Link.{Link}
use Rattle.constants.specs.Arithmetic.{plus, minus, times, over}
use Rattle.constants.specs.Constants.{zero, one, two, hundred, big_value, small_value, rq_tol, loss_factor}
use Rattle.coefficient.specs.Link.{no_addition, held_at, simple_of, high_resistance, low_resistance}
use Rattle.coefficient.specs.declared.Coefficients.{Coefficients}

-- `valve_coefficients`
unfoldable pub valve_coefficients : Float → Float → Coefficients
valve_coefficients q km =
    let hgrad = times (times two km) (abs_of q) in
    cond (lt zero km)
    (cond (lt hgrad rq_tol)
    (simple_of (over one rq_tol) (over (times q rq_tol) rq_tol))
    (simple_of (over one hgrad) (over (over (times q hgrad) two) hgrad)))
    (low_resistance q)

-- 0.02517 * k / d ^ 4
unfoldable pub minor_loss : Float → Float → Float
minor_loss k diameter = over (times loss_factor k) (whole_power diameter 4)

-- `pcv_minor_loss`
unfoldable pub pcv_minor_loss : Float → Float → Float → Float
pcv_minor_loss setting minor diameter =
    let kOpen = minor_loss minor diameter in
    let ratio = clamp_of (over setting hundred) small_value one in
    cond (le setting zero) big_value
    (cond (le hundred setting) kOpen
    (smaller_of (over kOpen (whole_power ratio 2)) big_value))

-- ordinary for a flow below the setting, controlled from it on
unfoldable pub fcv_of : Float → Float → Coefficients
fcv_of q setting =
    let c = valve_coefficients q small_value in
    let hloss = plus (over c.offset c.conductance) (times big_value (minus q setting)) in
    cond (lt q setting) c (simple_of (over one big_value) (over hloss big_value))

-- what a regulator adds on the right side, with the excess flow where it counts
unfoldable pub right_side : Float → Float → Bool → Float
right_side target excess counts = cond counts (plus (times target big_value) excess) (times target big_value)

-- `prv_coefficients`: the excess flow is that of the end
unfoldable pub prv_of : Float → Float → Coefficients
prv_of target excess =
    record { conductance = zero; offset = excess; upstream = no_addition; downstream = held_at (right_side target excess (lt excess zero)) }

-- `psv_coefficients`: the excess flow is that of the start
unfoldable pub psv_of : Float → Float → Coefficients
psv_of target excess =
    record { conductance = zero; offset = neg excess; upstream = held_at (right_side target excess (lt zero excess)); downstream = no_addition }

-- A valve that is neither closed nor open, by its kind and whether it is Active. (A pipe is no valve: `coefficientsOf` never asks it here.)
unfoldable pub regulator_of : LinkKind → Bool → Link → Float → Float → Float → Float → Float → Coefficients
regulator_of Tcv active l q excessUp excessDown up down = valve_coefficients q (minor_loss l.setting l.diameter)
regulator_of Pbv active l q excessUp excessDown up down = simple_of big_value (times l.setting big_value)
regulator_of Pcv active l q excessUp excessDown up down = valve_coefficients q (pcv_minor_loss l.setting l.minor l.diameter)
regulator_of Fcv active l q excessUp excessDown up down = fcv_of q l.setting
regulator_of Prv active l q excessUp excessDown up down = cond active (prv_of (plus l.setting down) excessDown) (low_resistance q)
regulator_of Psv active l q excessUp excessDown up down = cond active (psv_of (plus l.setting up) excessUp) (low_resistance q)
regulator_of Pipe active l q excessUp excessDown up down = low_resistance q

abbrev pub open_valve : Link → Float → Coefficients
open_valve l q = valve_coefficients q (minor_loss l.minor l.diameter)

-- `Valve::coefficients`
unfoldable pub valve_of : Link → Status → Float → Float → Float → Float → Float → Coefficients
valve_of l Closed q excessUp excessDown up down = high_resistance q
valve_of l TempClosed q excessUp excessDown up down = high_resistance q
valve_of l FixedClosed q excessUp excessDown up down = high_resistance q
valve_of l Open q excessUp excessDown up down = open_valve l q
valve_of l FixedOpen q excessUp excessDown up down = open_valve l q
valve_of l Active q excessUp excessDown up down = regulator_of l.kind true l q excessUp excessDown up down
valve_of l XPressure q excessUp excessDown up down = regulator_of l.kind false l q excessUp excessDown up down
valve_of l Xhead q excessUp excessDown up down = regulator_of l.kind false l q excessUp excessDown up down
