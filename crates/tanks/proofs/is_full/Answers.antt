-- `tanks::is_full` meets its contract. Assumes nothing.
use Rattle.tanks.proofs.Turns.{full_of}
use Rattle.tanks.proofs.is_full.Goals as goal

pub returns : goal.returns
returns c = full_of _ _ _ _ _ c.node-tank.ensures
