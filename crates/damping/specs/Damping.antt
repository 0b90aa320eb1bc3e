-- Document 01, "Damping", and the test of convergence (hydraulicsolver.rs). Definitions only.
use Rattle.std.specs.Prelude.{ℕ, Bool, not, ◌&&◌, cond, T, Float}
use Rattle.std.specs.Float.Ieee.{lt, le, eq}
use Rattle.float.specs.Order.{larger_of, smaller_of}
use Rattle.constants.specs.Arithmetic.{plus, times, over}
use Rattle.constants.specs.Constants.{zero, quarter, half, one, six_fifths, two, q_zero, big_value}
use Rattle.damping.specs.Units.{factor_of}

-- the next factor
unfoldable pub damped_of : Float → Float → Float → Float → Float
damped_of factor previous change limit =
    cond (lt previous change && lt change limit) (larger_of (times factor half) quarter)
    (cond (lt change (times previous half)) one
    (cond (lt change previous) (smaller_of (times factor six_fifths) one)
    factor))

-- what the factor keeps to
pub record InRange (factor : Float) : Type 0 where
  pub least : T (le quarter factor)
  pub most : T (le factor one)

unfoldable pub relative_change : Float → Float → Float → Float
relative_change sumDq sumQ accuracy = cond (lt (times two accuracy) sumQ) (over sumDq (plus sumQ q_zero)) sumDq

-- a max flow change of 0 means BIG_VALUE
unfoldable pub flow_limit : Float → Float
flow_limit change = cond (eq change zero) big_value change

unfoldable pub converged_of : Float → Float → Bool → Float → ℕ → Float → Bool
converged_of change accuracy statusChanged maxDq unit maxFlowChange =
    lt change accuracy && not statusChanged && lt (times maxDq (factor_of unit)) (flow_limit maxFlowChange)
