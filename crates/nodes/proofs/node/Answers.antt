-- `nodes::node` meets its contract. Assumes nothing.
use borrow.Author.Rules.{rules}
use Rattle.nodes.proofs.Reading.{node_is}
use Rattle.nodes.proofs.node.Goals as goal

pub returns : goal.returns
returns c = node_is _ _ _ _ c.node_place.ensures _ c.node_at.ensures
