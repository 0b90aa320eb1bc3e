-- `drawn_laws::ill_drawn` meets its contract. Assumes nothing.
use borrow.Author.Rules.{rules}
use borrow.Author.Tests.{not-true, not-false}
use Rattle.layout.proofs.Laws.{pressures_within}
use Rattle.drawn_laws.proofs.Laws.{ill_pressures, ill_none}
use Rattle.drawn_laws.proofs.ill_drawn.Goals as goal

pub returns-then-not-l : goal.returns-then-not-l
returns-then-not-l c = ill_none _ _ _ _ _ (not-true _ c.if-not-l.true)

pub pressures_of-requires : goal.pressures_of-requires
pressures_of-requires c = pressures_within _ _ c.requires.laid (not-false _ c.if-not-l.false)

pub returns : goal.returns
returns c = ill_pressures _ _ _ _ _ _ _ (not-false _ c.if-not-l.false) c.pressures_of.ensures c.first_ill.ensures
