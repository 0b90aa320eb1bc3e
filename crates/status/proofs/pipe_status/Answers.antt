-- `status::pipe_status` meets its contract. Assumes nothing.
use mathlib.Core.Path.{◌≡◌, refl}
use mathlib.Core.List.{[], ◌∷◌}
use Rattle.status.specs.Rules.{pipe_status}
use Rattle.codes.specs.Codes.{status_of}
use Rattle.codes.specs.declared.Status.{Status}
use Rattle.status.proofs.Cases.{of_status}
use borrow.Author.Rules.{rules}
use Rattle.status.proofs.pipe_status.Goals as goal
use Rattle.std.specs.Prelude.{None}

pub returns-in-TempClosed : goal.returns-in-TempClosed
unfolding pipe_status status_of
returns-in-TempClosed c = simp c.in-TempClosed.is

pub returns-in_default : goal.returns-in_default
unfolding pipe_status status_of
returns-in_default c = search rules
