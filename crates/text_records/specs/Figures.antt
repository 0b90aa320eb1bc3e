-- A figure of a line in feet, by the number of its word. Definitions only.
use Rattle.std.specs.Prelude.{ℕ, List, Float}
use Rattle.line_fields.specs.Fields.{value_at}
use Rattle.text_units.specs.Units.{feet_of, diameter_feet}
use Rattle.text_units.specs.declared.Units.{Units}

unfoldable pub feet_at : Units → List (List ℕ) → ℕ → Float
feet_at u ws k = feet_of u (value_at ws k)

unfoldable pub diameter_at : Units → List (List ℕ) → ℕ → Float
diameter_at u ws k = diameter_feet u (value_at ws k)
