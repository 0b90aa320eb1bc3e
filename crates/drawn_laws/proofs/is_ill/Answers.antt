-- `drawn_laws::is_ill` meets its contract. Assumes nothing.
use borrow.Author.Rules.{rules}
use Rattle.drawn_laws.proofs.Laws.{ill_of}
use Rattle.drawn_laws.proofs.is_ill.Goals as goal

pub gives_way-gives-requires : goal.gives_way-gives-requires
gives_way-gives-requires c = tt

pub within-requires : goal.within-requires
within-requires c = tt

pub returns : goal.returns
returns c = ill_of _ _ _ _ _ _ _ _ _ _ _ _ c.node-n.ensures c.in_service.ensures c.gives_way-gives.ensures c.surplus-more.ensures c.within.ensures
