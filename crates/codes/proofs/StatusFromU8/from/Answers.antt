-- `codes::StatusFromU8::from` gives what it says. Assumes nothing.
use Prim.Native.Nat.{zero-le}
use mathlib.Core.Path.{sym}
use Rattle.codes.specs.Codes.{statuses, status_of}
use Rattle.codes.proofs.Laws.{past, not_at}
use Rattle.codes.proofs.StatusFromU8.from.Goals as goal

pub returns-in_default : goal.returns-in_default
unfolding status_of
returns-in_default c =
    let rest = c.in_default.in_default-own.rest in
    let fewer = rest.0.0 in
    let fewest = fewer.0.0 in
    sym (past statuses c.args.code _ (not_at (not_at (not_at (not_at (not_at (not_at (not_at zero-le fewest.0.0.1) fewest.0.1) fewest.1) fewer.0.1) fewer.1) rest.0.1) rest.1))
