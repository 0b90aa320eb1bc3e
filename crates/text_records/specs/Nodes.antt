-- A node's record from the words of its line. Definitions only.
use Rattle.std.specs.Prelude.{ℕ, false, List, Float}
use Rattle.spelled.specs.Texts.{bytes_of}
use Rattle.line_fields.specs.Fields.{value_or_zero, keyword_at}
use Rattle.codes.specs.declared.NodeKind.TheVariants.{Junction, Reservoir, Tank}
use Rattle.named_lines.specs.declared.Kind.{Kind}
use Rattle.named_lines.specs.declared.Kind.TheVariants as kind
use Rattle.records.specs.declared.records.Node.{Node}
use Rattle.constants.specs.Arithmetic.{plus, times}
use Rattle.constants.specs.Constants.{zero, one}
use Rattle.text_units.specs.Units.{cubic_feet}
use Rattle.text_units.specs.declared.Units.{Units}
use Rattle.text_records.specs.Figures.{feet_at}

-- state.rs `apply_patterns`: from 0.0, the base demand by a pattern of 1.0 and by the multiplier
unfoldable pub demand_of : Units → Float → List (List ℕ) → Float
demand_of u multiplier ws = plus zero (times (times (cubic_feet u (value_or_zero ws 2)) one) multiplier)

-- 1 elevation, 2 base demand or none
unfoldable pub junction_record : Units → Float → List (List ℕ) → Node
junction_record u multiplier ws =
    record {
      kind = Junction;
      disabled = false;
      elevation = feet_at u ws 1;
      demand = demand_of u multiplier ws;
      head = zero;
      highest = zero;
      lowest = zero;
      overflow = false;
    }

-- 1 head
unfoldable pub reservoir_record : Units → List (List ℕ) → Node
reservoir_record u ws =
    record {
      kind = Reservoir;
      disabled = false;
      elevation = feet_at u ws 1;
      demand = zero;
      head = feet_at u ws 1;
      highest = zero;
      lowest = zero;
      overflow = false;
    }

-- 1 elevation, 2 level, 3 lowest level, 4 highest level, 8 overflow or none
unfoldable pub tank_record : Units → List (List ℕ) → Node
tank_record u ws =
    record {
      kind = Tank;
      disabled = false;
      elevation = feet_at u ws 1;
      demand = zero;
      head = plus (feet_at u ws 1) (feet_at u ws 2);
      highest = feet_at u ws 4;
      lowest = feet_at u ws 3;
      overflow = keyword_at ws 8 (bytes_of "YES");
    }

-- what is no junction and no reservoir is a tank
unfoldable pub node_record_of : Kind → Units → Float → List (List ℕ) → Node
node_record_of kind.Junction u multiplier ws = junction_record u multiplier ws
node_record_of kind.Reservoir u multiplier ws = reservoir_record u ws
node_record_of kind.Tank u multiplier ws = tank_record u ws
node_record_of kind.Pipe u multiplier ws = tank_record u ws
node_record_of kind.CheckedPipe u multiplier ws = tank_record u ws
node_record_of (kind.Valve k) u multiplier ws = tank_record u ws
