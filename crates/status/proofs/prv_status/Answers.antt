-- `status::prv_status` meets its contract. Assumes nothing.
use mathlib.Core.Path.{◌≡◌, refl}
use mathlib.Core.List.{[], ◌∷◌}
use Rattle.status.specs.Rules.{prv_status}
use Rattle.codes.specs.Codes.{status_of}
use Rattle.codes.specs.declared.Status.{Status}
use Rattle.status.proofs.Cases.{of_status}
use borrow.Author.Rules.{rules}
use Rattle.status.proofs.prv_status.Goals as goal
use Rattle.std.specs.Prelude.{None}

pub returns-then-head_start-target : goal.returns-then-head_start-target
unfolding prv_status
returns-then-head_start-target c = simp (c.in-Closed.is, c.if-head_start-target.true)

pub returns-in-Active : goal.returns-in-Active
unfolding prv_status
returns-in-Active c = simp (c.closed_if_negative.ensures, c.becomes_if.ensures, c.in-Active.is)

pub returns-in-Open : goal.returns-in-Open
unfolding prv_status
returns-in-Open c = simp (c.closed_if_negative-in-Open.ensures, c.becomes_if-in-Open.ensures, c.in-Open.is)

pub returns-else-head_start-target : goal.returns-else-head_start-target
unfolding prv_status
returns-else-head_start-target c = simp (c.becomes_if-in-Closed.ensures, c.in-Closed.is, c.if-head_start-target.false)

pub returns-in-XPressure : goal.returns-in-XPressure
unfolding prv_status
returns-in-XPressure c = simp (c.closed_if_negative-in-XPressure.ensures, c.in-XPressure.is)

pub returns-in_default : goal.returns-in_default
unfolding prv_status status_of
returns-in_default c = search rules
