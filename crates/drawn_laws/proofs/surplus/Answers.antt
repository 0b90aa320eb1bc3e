-- `drawn_laws::surplus` meets its contract. Assumes nothing.
use borrow.Author.Rules.{rules}
use Rattle.drawn_laws.proofs.Laws.{surplus_of}
use Rattle.drawn_laws.proofs.surplus.Goals as goal

pub pressure_range-range-requires : goal.pressure_range-range-requires
pressure_range-range-requires c = tt

pub fair_share-requires : goal.fair_share-requires
fair_share-requires c = tt

pub returns : goal.returns
returns c = surplus_of _ _ _ _ _ _ _ _ _ c.node-n.ensures c.pressure_range-range.ensures c.fair_share.ensures
