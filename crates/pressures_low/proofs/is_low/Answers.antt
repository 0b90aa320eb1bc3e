-- `pressures_low::is_low` meets its contract. Assumes nothing.
use borrow.Author.Rules.{rules}
use Rattle.pressures_low.proofs.Laws.{low_of_lem}
use Rattle.pressures_low.proofs.is_low.Goals as goal

pub too_low-requires : goal.too_low-requires
too_low-requires c = tt

pub returns : goal.returns
returns c = low_of_lem _ _ _ _ _ _ _ _ c.node-n.ensures c.in_service-serves.ensures c.too_low.ensures
