-- A check valve's barrier leaves a pipe with a conductance above zero. Statements only.
use Rattle.std.specs.Prelude.{◌≡◌, true, false, T, negsuc, Float}
use Rattle.std.specs.Float.{fin}
use Rattle.std.specs.Float.Ieee.{lt, le}
use Rattle.float.specs.Order.{wild_of}
use Rattle.constants.specs.Arithmetic.{over}
use Rattle.constants.specs.Constants.{zero, one, rq_tol}
use Rattle.pipes.specs.Pipe.{with_barrier}

-- 2 ^ -200
abbrev pub least : Float
least = fin false 1 (negsuc 199)

-- Of a flow that is not wild and a pipe's conductance from 2 ^ -200 to 1 over RQ_TOL.
abbrev pub BarrierConducts : Type 0
BarrierConducts =
    (q gInv y : Float) → wild_of q ≡ false → T (le least gInv) → T (le gInv (over one rq_tol)) → lt zero (with_barrier q gInv y).conductance ≡ true
