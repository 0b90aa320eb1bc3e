-- link.rs: a link's coefficients by value. Definitions only.
use Rattle.std.specs.Prelude.{Float, Option, Some, None}
use Rattle.constants.specs.Arithmetic.{over}
use Rattle.constants.specs.Constants.{one, big_value, small_value}
use Rattle.coefficient.specs.declared.NodeAddition.{NodeAddition}
use Rattle.coefficient.specs.declared.Coefficients.{Coefficients}

-- an absent addition
unfoldable pub no_addition : Option NodeAddition
no_addition = None

-- what holds the head of a node: BIG_VALUE on the diagonal
unfoldable pub held_at : Float → Option NodeAddition
held_at r = Some (record { diagonal = big_value; rhs = r })

-- `LinkCoefficients::simple`
unfoldable pub simple_of : Float → Float → Coefficients
simple_of gInv y = record { conductance = gInv; offset = y; upstream = no_addition; downstream = no_addition }

-- a closed link: hloss = BIG_VALUE * q
abbrev pub high_resistance : Float → Coefficients
high_resistance q = simple_of (over one big_value) q

-- hloss = SMALL_VALUE * q
abbrev pub low_resistance : Float → Coefficients
low_resistance q = simple_of (over one small_value) q
