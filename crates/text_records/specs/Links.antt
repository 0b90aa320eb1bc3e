-- A link's record from the words of its line, `ws`, and those of the line that settled its status last, `said`. Definitions only.
use Rattle.std.specs.Prelude.{ℕ, Bool, true, false, cond, List, Float}
use Rattle.line_fields.specs.Fields.{has_word, value_at}
use Rattle.pipe_lines.specs.Pipes.{pipe_status_of, pipe_loss_of}
use Rattle.status_lines.specs.Status.{said_of}
use Rattle.pipe_lines.specs.declared.PipeStatus.{PipeStatus}
use Rattle.pipe_lines.specs.declared.PipeStatus.TheVariants as pipe
use Rattle.status_lines.specs.declared.Said.{Said}
use Rattle.status_lines.specs.declared.Said.TheVariants as said
use Rattle.named_lines.specs.declared.Kind.{Kind}
use Rattle.named_lines.specs.declared.Kind.TheVariants as kind
use Rattle.codes.specs.declared.LinkKind.{LinkKind}
use Rattle.codes.specs.declared.LinkKind.TheVariants.{Pipe, Prv, Psv, Pbv, Fcv, Tcv, Pcv}
use Rattle.codes.specs.declared.Status.{Status}
use Rattle.codes.specs.declared.Status.TheVariants.{Closed, Open, Active, TempClosed, FixedClosed, FixedOpen, XPressure, Xhead}
use Rattle.records.specs.declared.records.Link.{Link}
use Rattle.constants.specs.Constants.{zero, q_zero, small_value}
use Rattle.text_units.specs.Units.{pressure_feet, cubic_feet, resistance_of, first_flow}
use Rattle.text_units.specs.declared.Units.{Units}
use Rattle.text_records.specs.Figures.{feet_at, diameter_at}

-- a link's own line has more than two words, a line of STATUS has two
abbrev pub is_own : List (List ℕ) → Bool
is_own said = has_word said 2

-- ---- status

-- a pipe with a check valve is open
unfoldable pub of_pipe : PipeStatus → Status
of_pipe pipe.Closed = Closed
of_pipe pipe.Open = Open
of_pipe pipe.Checked = Open

unfoldable pub of_said : Said → Status
of_said said.Closed = Closed
of_said said.Open = Open
of_said said.Number = Open

unfoldable pub pipe_status : List (List ℕ) → Status
unfolding of_pipe of_said
pipe_status said = cond (is_own said) (of_pipe (pipe_status_of said)) (of_said (said_of said))

-- STATUS fixes a valve, or makes it Active by a number
unfoldable pub fixed_by : Said → Status
fixed_by said.Closed = FixedClosed
fixed_by said.Open = FixedOpen
fixed_by said.Number = Active

unfoldable pub valve_status : List (List ℕ) → Status
valve_status said = cond (is_own said) Active (fixed_by (said_of said))

-- ---- flow: link.rs starts a link at one foot per second, and one that is closed at Q_ZERO

unfoldable pub is_closed : Status → Bool
is_closed Closed = true
is_closed FixedClosed = true
is_closed Open = false
is_closed Active = false
is_closed TempClosed = false
is_closed FixedOpen = false
is_closed XPressure = false
is_closed Xhead = false

unfoldable pub flow_of : Status → Float → Float
flow_of s diameter = cond (is_closed s) q_zero (first_flow diameter)

-- ---- setting: word 5 of a valve's own line, or the number of a line of STATUS

unfoldable pub set_by : Said → Float → Float → Float
set_by said.Number there own = there
set_by said.Closed there own = own
set_by said.Open there own = own

unfoldable pub last_setting : List (List ℕ) → List (List ℕ) → Float
last_setting ws said = cond (is_own said) (value_at ws 5) (set_by (said_of said) (value_at said 1) (value_at ws 5))

-- PRV, PSV, PBV: a pressure; FCV: a flow; TCV: as it is
unfoldable pub setting_of : LinkKind → Units → Float → Float
setting_of Pipe u x = pressure_feet u x
setting_of Prv u x = pressure_feet u x
setting_of Psv u x = pressure_feet u x
setting_of Pbv u x = pressure_feet u x
setting_of Fcv u x = cubic_feet u x
setting_of Tcv u x = x
setting_of Pcv u x = x

-- ---- records

unfoldable pub is_checked : PipeStatus → Bool
is_checked pipe.Checked = true
is_checked pipe.Closed = false
is_checked pipe.Open = false

-- 3 length, 4 diameter, 5 roughness; then the minor loss, as it is written
unfoldable pub pipe_record : Units → List (List ℕ) → List (List ℕ) → ℕ → ℕ → Link
pipe_record u ws said start end =
    record {
      kind = Pipe;
      check = is_checked (pipe_status_of ws);
      status = pipe_status said;
      start = start;
      end = end;
      setting = zero;
      minor = pipe_loss_of ws;
      diameter = diameter_at u ws 4;
      resistance = resistance_of (feet_at u ws 3) (diameter_at u ws 4) (value_at ws 5);
      flow = flow_of (pipe_status said) (diameter_at u ws 4);
    }

-- 3 diameter, 5 setting, 6 minor loss
unfoldable pub valve_record : LinkKind → Units → List (List ℕ) → List (List ℕ) → ℕ → ℕ → Link
valve_record kind u ws said start end =
    record {
      kind = kind;
      check = false;
      status = valve_status said;
      start = start;
      end = end;
      setting = setting_of kind u (last_setting ws said);
      minor = value_at ws 6;
      diameter = diameter_at u ws 3;
      resistance = small_value;
      flow = flow_of (valve_status said) (diameter_at u ws 3);
    }

-- what is no valve is a pipe
unfoldable pub link_record_of : Kind → Units → List (List ℕ) → List (List ℕ) → ℕ → ℕ → Link
link_record_of (kind.Valve k) u ws said start end = valve_record k u ws said start end
link_record_of kind.Pipe u ws said start end = pipe_record u ws said start end
link_record_of kind.CheckedPipe u ws said start end = pipe_record u ws said start end
link_record_of kind.Junction u ws said start end = pipe_record u ws said start end
link_record_of kind.Reservoir u ws said start end = pipe_record u ws said start end
link_record_of kind.Tank u ws said start end = pipe_record u ws said start end
