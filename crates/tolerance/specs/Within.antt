-- Within a tolerance of 0. Definitions only.
use Rattle.std.specs.Prelude.{Bool, Float}
use Rattle.std.specs.Float.Ieee.{le}
use Rattle.float.specs.Sign.{abs_of}

-- the magnitude of x is at most the tolerance
unfoldable pub within_of : Float → Float → Bool
unfolding abs_of
within_of x tolerance = le (abs_of x) tolerance
