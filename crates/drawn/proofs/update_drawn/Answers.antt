-- `drawn::update_drawn` meets its contract. Assumes nothing.
use borrow.Author.Rules.{rules}
use Rattle.layout.proofs.Laws.{pressures_within}
use Rattle.drawn.specs.Drawn.{draws}
use Rattle.drawn.proofs.Laws.{drawn_pressures, drawn_none}
use Rattle.drawn.proofs.update_drawn.Goals as goal

pub pressures_of-requires : goal.pressures_of-requires
pressures_of-requires c = pressures_within _ _ c.requires.laid c.if-l.true

pub returns-then-l : goal.returns-then-l
returns-then-l c = drawn_pressures _ _ _ _ _ _ (draws c.args.drawn.now c.args.stats) _ c.if-l.true c.pressures_of.ensures c.draw_nodes.ensures

pub returns : goal.returns
returns c = drawn_none _ _ _ _ _ (draws c.args.drawn.now c.args.stats) c.if-l.false
