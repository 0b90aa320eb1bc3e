-- `tanks::is_empty` meets its contract. Assumes nothing.
use Rattle.tanks.proofs.Turns.{empty_of}
use Rattle.tanks.proofs.is_empty.Goals as goal

pub returns : goal.returns
returns c = empty_of _ _ _ _ _ c.node-tank.ensures
