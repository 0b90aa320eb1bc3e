-- `desk_evening::desk_evening_verdict` meets its contract, for any sheet, any rows, any limits and any buffers. Assumes nothing.
use mathlib.Core.Path.{ap, ◌∙◌}
use borrow.Author.Rules.{rules}
use Rattle.desk_evening.specs.Told.{heard_of}
use Rattle.desk_evening.proofs.desk_evening_verdict.Goals as goal

pub returns : goal.returns
unfolding heard_of
returns c = rw (← c.solve_evening-c.ensures, c.called_of.ensures)
