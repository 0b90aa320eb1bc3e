-- `update::change_counts` meets its contract. Assumes nothing.
use mathlib.Core.Bool.{true, false}
use mathlib.Core.List.{[], ◌∷◌}
use Rattle.codes.specs.Codes.{status_of}
use Rattle.codes.specs.declared.Status.{Status}
use Rattle.status.proofs.Cases.{of_status}
use Rattle.update.specs.Update.{leaves, counts}
use borrow.Author.Rules.{rules}
use mathlib.Core.Path.{◌≡◌, refl}
use Rattle.update.proofs.change_counts.Goals as goal

pub returns-in-None : goal.returns-in-None
unfolding counts
returns-in-None c = simp c.in-None.is

pub returns-in-TempClosed : goal.returns-in-TempClosed
unfolding counts leaves status_of
returns-in-TempClosed c = search rules

pub returns-in_default : goal.returns-in_default
unfolding counts leaves status_of
returns-in_default c = search rules
