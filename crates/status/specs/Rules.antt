-- The changes of a link's status (pipe.rs, valve.rs and link.rs) with their causes (document 02, [2]): those of a PRV and a PSV go by the target head. Whatever leaves
-- Closed or TempClosed is reopened; another change is named by the flow or the head that was tested. Definitions only.
use Rattle.std.specs.Prelude.{Bool, true, false, ◌&&◌, cond, Float, None, Some, Option}
use Rattle.std.specs.Float.Ieee.{lt, le, neg}
use Rattle.codes.specs.declared.LinkKind.{LinkKind}
use Rattle.codes.specs.declared.LinkKind.TheVariants.{Pipe, Prv, Psv, Pbv, Fcv, Tcv, Pcv}
use Rattle.codes.specs.declared.Status.{Status}
use Rattle.codes.specs.declared.Status.TheVariants.{Closed, Open, Active, TempClosed, FixedClosed, FixedOpen, XPressure, Xhead}
use Rattle.causes.specs.declared.Cause.{Cause}
use Rattle.causes.specs.declared.Cause.TheVariants.{ReverseFlow, InletTooLow, OutletTooHigh, Reopened}
use Rattle.constants.specs.Arithmetic.{plus, minus}
use Rattle.constants.specs.Constants.{q_tol, h_tol}

-- the new status and its cause, if a rule gives one
abbrev pub Change : Type 0
Change = Option (Status × Cause)

-- the Rust's `if test { Some(status) } else { None }`
unfoldable pub becomes_if : Bool → Status → Cause → Change
becomes_if test status cause = cond test (Some (status, cause)) None

-- closed if the flow is negative
unfoldable pub closed_if_negative : Float → Change → Change
closed_if_negative q change = cond (lt q (neg q_tol)) (Some (Closed, ReverseFlow)) change

-- `prv_status`
unfoldable pub prv_status : Float → Status → Float → Float → Float → Change
prv_status target Active q up down = closed_if_negative q (becomes_if (lt up (minus target h_tol)) Open InletTooLow)
prv_status target Open q up down = closed_if_negative q (becomes_if (lt (plus target h_tol) down) Active OutletTooHigh)
prv_status target Closed q up down =
    cond (le (plus target h_tol) up && lt down (minus target h_tol)) (Some (Active, Reopened))
    (becomes_if (lt up (minus target h_tol) && lt (plus down h_tol) up) Open Reopened)
prv_status target XPressure q up down = closed_if_negative q None
prv_status target TempClosed q up down = None
prv_status target FixedClosed q up down = None
prv_status target FixedOpen q up down = None
prv_status target Xhead q up down = None

-- `psv_status`
unfoldable pub psv_status : Float → Status → Float → Float → Float → Change
psv_status target Active q up down = closed_if_negative q (becomes_if (lt (plus target h_tol) down) Open OutletTooHigh)
psv_status target Open q up down = closed_if_negative q (becomes_if (lt up (minus target h_tol)) Active InletTooLow)
psv_status target Closed q up down =
    cond (lt (plus target h_tol) down && lt (plus down h_tol) up) (Some (Open, Reopened))
    (becomes_if (lt (plus target h_tol) up && lt (plus down h_tol) up) Active Reopened)
psv_status target XPressure q up down = closed_if_negative q None
psv_status target TempClosed q up down = None
psv_status target FixedClosed q up down = None
psv_status target FixedOpen q up down = None
psv_status target Xhead q up down = None

-- `Pipe::update_status`
unfoldable pub pipe_status : Status → Change
pipe_status TempClosed = Some (Open, Reopened)
pipe_status Closed = None
pipe_status Open = None
pipe_status Active = None
pipe_status FixedClosed = None
pipe_status FixedOpen = None
pipe_status XPressure = None
pipe_status Xhead = None

-- `Link::update_status`: the target head is the setting above the end of a PRV, and above the start of a PSV
unfoldable pub updated_of : LinkKind → Status → Float → Float → Float → Float → Float → Float → Change
updated_of Pipe status setting q headUp headDown up down = pipe_status status
updated_of Prv status setting q headUp headDown up down = prv_status (plus setting down) status q headUp headDown
updated_of Psv status setting q headUp headDown up down = psv_status (plus setting up) status q headUp headDown
updated_of Pbv status setting q headUp headDown up down = None
updated_of Fcv status setting q headUp headDown up down = None
updated_of Tcv status setting q headUp headDown up down = None
updated_of Pcv status setting q headUp headDown up down = None

-- a valve regulates: neither one that was freed (XPressure) nor one at Xhead
unfoldable pub is_active : Status → Bool
is_active Active = true
is_active Closed = false
is_active Open = false
is_active TempClosed = false
is_active FixedClosed = false
is_active FixedOpen = false
is_active XPressure = false
is_active Xhead = false
