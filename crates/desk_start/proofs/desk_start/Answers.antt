-- `desk_start::desk_start` meets its contract, for any sheet and any state. Assumes nothing.
use mathlib.Core.Path.{ap, ◌∙◌}
use borrow.Author.Rules.{rules}
use Rattle.desk_start.specs.Begun.{begun_of}
use Rattle.desk_start.proofs.desk_start.Goals as goal

pub returns : goal.returns
unfolding begun_of
returns c = rw (← c.start-t.ensures, c.counts_of.ensures)
