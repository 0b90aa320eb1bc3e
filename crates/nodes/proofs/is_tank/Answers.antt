-- `nodes::is_tank` meets its contract. Assumes nothing.
use borrow.Author.Rules.{rules}
use Rattle.nodes.proofs.Reading.{tank_is}
use Rattle.nodes.proofs.is_tank.Goals as goal

pub returns : goal.returns
returns c = tank_is _ _ _ _ c.node_place.ensures
