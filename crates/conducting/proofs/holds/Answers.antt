-- `conducting::holds` meets its contract. Assumes nothing.
use borrow.Author.Rules.{rules}
use Rattle.conducting.proofs.Made.{holds_not, holds_at_lem}
use mathlib.Core.Path.{ap}
use mathlib.Core.Bool.{not}
use Rattle.conducting.proofs.holds.Goals as goal

pub returns-then-not-is_active : goal.returns-then-not-is_active
returns-then-not-is_active c = holds_not _ _ _ c.is_active.ensures (ap not c.if-not-is_active.true)

pub returns : goal.returns
returns c = holds_at_lem _ _ _ c.is_active.ensures (ap not c.if-not-is_active.false) _ c.held_by.ensures
