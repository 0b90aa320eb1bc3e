-- `nodes::elevation` meets its contract. Assumes nothing.
use borrow.Author.Rules.{rules}
use Rattle.nodes.proofs.Reading.{elevation_is}
use Rattle.nodes.proofs.elevation.Goals as goal

pub returns : goal.returns
returns c = elevation_is _ _ _ _ c.node_place.ensures _ c.from_bytes.ensures
