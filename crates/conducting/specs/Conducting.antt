-- Which links join the heads of their ends, and which head an Active regulator gives (docs/DESK.md). Definitions only.
use Rattle.std.specs.Prelude.{ℕ, Bool, true, false, not, cond, ◌&&◌, Float, None, Option, Some}
use Rattle.std.specs.Float.Ieee.{lt, le, neg}
use Rattle.codes.specs.declared.LinkKind.{LinkKind}
use Rattle.codes.specs.declared.LinkKind.TheVariants.{Pipe, Prv, Psv, Pbv, Fcv, Tcv, Pcv}
use Rattle.codes.specs.declared.Status.{Status}
use Rattle.codes.specs.declared.Status.TheVariants.{Closed, Open, Active, TempClosed, FixedClosed, FixedOpen, XPressure, Xhead}
use Rattle.constants.specs.Constants.{zero, q_zero}
use Rattle.records.specs.declared.records.Link.{Link}
use Rattle.status.specs.Rules.{is_active}

-- the flow presses on a check valve: it is at -Q_ZERO or below
unfoldable pub pressed : Bool → Float → Bool
pressed check flow = check && le flow (neg q_zero)

-- only Closed and TempClosed shut a pipe, and a check valve that the flow presses on
unfoldable pub pipe_conducts : Bool → Status → Float → Bool
unfolding pressed
pipe_conducts check Closed flow = false
pipe_conducts check TempClosed flow = false
pipe_conducts check Open flow = not (pressed check flow)
pipe_conducts check Active flow = not (pressed check flow)
pipe_conducts check FixedClosed flow = not (pressed check flow)
pipe_conducts check FixedOpen flow = not (pressed check flow)
pipe_conducts check XPressure flow = not (pressed check flow)
pipe_conducts check Xhead flow = not (pressed check flow)

-- A valve that is neither closed nor open, by its kind and whether it is Active. (A pipe is no valve: `conductsOf` never asks it here.)
unfoldable pub controlled : LinkKind → Bool → Float → Float → Bool
controlled Prv active setting flow = not active
controlled Psv active setting flow = not active
controlled Fcv active setting flow = lt flow setting
controlled Pcv active setting flow = lt zero setting
controlled Pbv active setting flow = true
controlled Tcv active setting flow = true
controlled Pipe active setting flow = true

unfoldable pub valve_conducts : LinkKind → Float → Status → Float → Bool
unfolding controlled
valve_conducts kind setting Closed flow = false
valve_conducts kind setting TempClosed flow = false
valve_conducts kind setting FixedClosed flow = false
valve_conducts kind setting Open flow = true
valve_conducts kind setting FixedOpen flow = true
valve_conducts kind setting Active flow = controlled kind true setting flow
valve_conducts kind setting XPressure flow = controlled kind false setting flow
valve_conducts kind setting Xhead flow = controlled kind false setting flow

-- a pipe by the pipe's rule, every other kind by the valve's
abbrev pub if_pipe : LinkKind → Bool → Bool → Bool
if_pipe Pipe p v = p
if_pipe Prv p v = v
if_pipe Psv p v = v
if_pipe Pbv p v = v
if_pipe Fcv p v = v
if_pipe Tcv p v = v
if_pipe Pcv p v = v

-- a link at a status and a flow
unfoldable pub conducts_of : Link → Status → Float → Bool
unfolding pipe_conducts valve_conducts
conducts_of k status flow = if_pipe k.kind (pipe_conducts k.check status flow) (valve_conducts k.kind k.setting status flow)

-- a PRV gives the head at its end, a PSV that at its start
unfoldable pub held_by : LinkKind → ℕ → ℕ → Option ℕ
held_by Prv start end = Some end
held_by Psv start end = Some start
held_by Pipe start end = None
held_by Pbv start end = None
held_by Fcv start end = None
held_by Tcv start end = None
held_by Pcv start end = None

-- while it is Active
unfoldable pub holds_of : Link → Status → Option ℕ
unfolding held_by is_active
holds_of k status = cond (is_active status) (held_by k.kind k.start k.end) None
