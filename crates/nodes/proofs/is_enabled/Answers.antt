-- `nodes::is_enabled` meets its contract. Assumes nothing.
use borrow.Author.Rules.{rules}
use Rattle.nodes.proofs.Reading.{enabled_is}
use Rattle.nodes.proofs.is_enabled.Goals as goal

pub returns : goal.returns
returns c = enabled_is _ _ _ _ c.node_place.ensures
