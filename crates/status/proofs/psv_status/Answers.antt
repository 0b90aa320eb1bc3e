-- `status::psv_status` meets its contract. Assumes nothing.
use mathlib.Core.Path.{◌≡◌, refl}
use mathlib.Core.List.{[], ◌∷◌}
use Rattle.status.specs.Rules.{psv_status}
use Rattle.codes.specs.Codes.{status_of}
use Rattle.codes.specs.declared.Status.{Status}
use Rattle.status.proofs.Cases.{of_status}
use borrow.Author.Rules.{rules}
use Rattle.status.proofs.psv_status.Goals as goal
use Rattle.std.specs.Prelude.{None}

pub returns-then-outlet_high-falls : goal.returns-then-outlet_high-falls
unfolding psv_status
returns-then-outlet_high-falls c = simp (c.in-Closed.is, c.if-outlet_high-falls.true)

pub returns-in-Active : goal.returns-in-Active
unfolding psv_status
returns-in-Active c = simp (c.closed_if_negative.ensures, c.becomes_if.ensures, c.in-Active.is)

pub returns-in-Open : goal.returns-in-Open
unfolding psv_status
returns-in-Open c = simp (c.closed_if_negative-in-Open.ensures, c.becomes_if-in-Open.ensures, c.in-Open.is)

pub returns-else-outlet_high-falls : goal.returns-else-outlet_high-falls
unfolding psv_status
returns-else-outlet_high-falls c = simp (c.becomes_if-in-Closed.ensures, c.in-Closed.is, c.if-outlet_high-falls.false)

pub returns-in-XPressure : goal.returns-in-XPressure
unfolding psv_status
returns-in-XPressure c = simp (c.closed_if_negative-in-XPressure.ensures, c.in-XPressure.is)

pub returns-in_default : goal.returns-in_default
unfolding psv_status status_of
returns-in_default c = search rules
