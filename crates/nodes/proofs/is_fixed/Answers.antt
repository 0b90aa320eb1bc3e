-- `nodes::is_fixed` meets its contract. Assumes nothing.
use borrow.Author.Rules.{rules}
use Rattle.nodes.proofs.Reading.{fixed_is}
use Rattle.nodes.proofs.is_fixed.Goals as goal

pub returns : goal.returns
returns c = fixed_is _ _ _ _ c.node_place.ensures
