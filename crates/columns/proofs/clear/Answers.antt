-- `columns::clear` meets its contract. Assumes nothing.
use native.Mathlib.Omega.{arith}
use mathlib.Core.Path.{◌≡◌}
use lib.ListN.{length, take}
use lib.Seq.{length-take-le}
use Rattle.columns.proofs.Laws.{cleared_is}
use Rattle.columns.proofs.clear.Goals as goal

pub returns : goal.returns
returns c =
    let n : length (take c.args.count c.args.x.now) ≡ c.args.count = length-take-le c.args.count c.args.x.now (omega arith) in
    rw (c.fill.ensures.after (λ y e. e), n) (cleared_is c.args.count c.args.x.now (omega arith))
