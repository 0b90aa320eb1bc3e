-- `sheet::reading::pressures_fine` meets its contract. Assumes nothing.
use mathlib.Core.Path.{◌∙◌}
use Rattle.layout.proofs.Laws.{pressures_within}
use Rattle.sheet.proofs.Readings.{fine_none, fine_some}
use Rattle.sheet.proofs.reading.pressures_fine.Goals as goal

pub pressures_good-requires : goal.pressures_good-requires
pressures_good-requires c = pressures_within _ _ c.requires c.if-l.true

pub returns-then-l : goal.returns-then-l
returns-then-l c = c.pressures_good.ensures ∙ fine_some c.args.b c.args.l c.args.sheet.now c.if-l.true

pub returns : goal.returns
returns c = fine_none c.args.b c.args.l c.args.sheet.now c.if-l.false
