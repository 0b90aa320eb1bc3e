-- `held_heads::misses` meets its contract. Assumes nothing.
use Rattle.held_heads.proofs.Laws.{misses_of}
use Rattle.held_heads.proofs.misses.Goals as goal

pub within-requires : goal.within-requires
within-requires c = tt

pub returns : goal.returns
returns c = misses_of _ _ _ _ _ _ _ _ _ c.holds-held.ensures c.miss-off.ensures c.within.ensures
