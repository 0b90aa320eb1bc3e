-- `mending::raise` meets its contract. Assumes nothing.
use Rattle.mending.proofs.Loops.{raised}
use Rattle.mending.proofs.raise.Goals as goal

pub returns : goal.returns
returns c = raised _ _ _ _ _ c.requires.0 c.requires.1 c.copy_within.ensures.len c.copy_within.ensures.by_index
