-- `mending::lower` meets its contract. Assumes nothing.
use Rattle.mending.proofs.Loops.{lowered}
use Rattle.mending.proofs.lower.Goals as goal

pub returns : goal.returns
returns c = lowered _ _ _ _ _ c.requires.0 c.requires.1 c.copy_within.ensures.len c.copy_within.ensures.by_index
