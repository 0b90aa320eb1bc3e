-- `desk_steps::desk_trial` meets its contract, for any sheet, any state and any buffers. Assumes nothing.
use mathlib.Core.Path.{ap, ◌∙◌}
use borrow.Author.Rules.{rules}
use Rattle.desk_steps.specs.Steps.{passed_of}
use Rattle.desk_steps.proofs.desk_trial.Goals as goal

pub returns : goal.returns
unfolding passed_of
returns c = rw (← c.take-t.ensures, c.counts_of.ensures)
