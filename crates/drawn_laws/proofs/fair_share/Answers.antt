-- `drawn_laws::fair_share` meets its contract. Assumes nothing.
use Rattle.drawn_laws.proofs.Laws.{share_of}
use Rattle.drawn_laws.proofs.fair_share.Goals as goal

pub clamp-requires : goal.clamp-requires
clamp-requires c = tt

pub root-requires : goal.root-requires
root-requires c = tt

pub returns : goal.returns
returns c = share_of _ _ _ _ _ _ _ c.clamp.ensures c.root.ensures
