-- Request [11]: junction.rs `demand_coefficients` with pressure exponent 0.5, and the column that counts. Definitions only.
use Rattle.std.specs.Prelude.{Bool, true, false, cond, ◌&&◌, List, Float}
use Rattle.std.specs.Float.Ieee.{lt, le}
use Rattle.float.specs.Order.{larger_of}
use Rattle.records.specs.declared.records.Pressures.{Pressures}
use Rattle.constants.specs.Arithmetic.{plus, minus, times, over}
use Rattle.constants.specs.Constants as constant
use Rattle.drawing.specs.declared.Bend.{Bend}

-- drawn where a PD stands, else asked
unfoldable pub counting : Bool → List Float → List Float → List Float
counting true drawn asked = drawn
counting false drawn asked = asked

-- a demand above 0 of a junction in service
unfoldable pub gives_way : Bool → Float → Bool
gives_way serving asked = serving && lt constant.zero asked

-- from minimum to required pressure, and at least PDA_MIN_DIFF
unfoldable pub range_of : Pressures → Float
range_of p = larger_of (minus p.required p.minimum) constant.pda_min_diff

-- between none and all of the demand; linear where the gradient is below RQ_TOL
unfoldable pub within : Float → Float → Float → Float → Bend
within drawn asked range factor =
    let hgrad = over (times (times constant.two range) factor) asked in
    cond (lt hgrad constant.rq_tol)
    (record { conductance = over constant.one constant.rq_tol; offset = times drawn constant.rq_tol })
    (record { conductance = over constant.one hgrad; offset = over (times hgrad drawn) constant.two })

-- the bend of a junction that draws so much of what it asks: steep at or below none of it, and from all of it on
unfoldable pub bend_of : Float → Float → Float → Bend
unfolding within
bend_of drawn asked range =
    let factor = over drawn asked in
    cond (le factor constant.zero)
    (record { conductance = over constant.one constant.big_value; offset = times constant.big_value drawn })
    (cond (lt factor constant.one) (within drawn asked range factor)
    (record { conductance = over constant.one constant.big_value; offset = plus range (times constant.big_value (minus drawn asked)) }))
