-- Document 01's bench cases marked P, as a table. Definitions only.
use Rattle.std.specs.Prelude.{◌≡◌, false, Float}
use Rattle.std.specs.Float.{nan, inf}
use Rattle.std.specs.Float.Ieee.{neg}
use Rattle.roots.specs.Root.{root_of}
use Rattle.constants.specs.Arithmetic.{over}
use Rattle.constants.specs.Constants.{zero, hundredth, fiftieth, tenth, quarter, half, three_quarters, one, one_and_half, two_and_quarter, three, six, small_value}
use Rattle.coefficient.specs.Link.{simple_of}
use Rattle.valves.specs.Valve.{valve_coefficients}
use Rattle.damping.specs.Damping.{damped_of}

-- factor, previous, change, limit → the next factor
abbrev pub Damps : Float → Float → Float → Float → Float → Type 0
Damps factor previous change limit next = damped_of factor previous change limit ≡ next

-- km, q → conductance and offset
abbrev pub Gives : Float → Float → Float → Float → Type 0
Gives km q conductance offset = valve_coefficients q km ≡ simple_of conductance offset

pub record Bench : Type 0 where
  pub damping_0 : Damps one (inf false) half tenth one
  pub damping_1 : Damps one hundredth fiftieth tenth half
  pub damping_2 : Damps quarter hundredth fiftieth tenth quarter
  pub damping_3 : Damps one hundredth fiftieth fiftieth one
  pub damping_4 : Damps quarter one quarter tenth one
  pub damping_5 : Damps one one three_quarters tenth one
  pub damping_6 : Damps half one nan tenth half
  pub loss_0 : Gives zero three (over one small_value) three
  pub loss_1 : Gives one three (over one six) one_and_half
  pub loss_2 : Gives one (neg three) (over one six) (neg one_and_half)
  pub root : root_of two_and_quarter ≡ one_and_half
