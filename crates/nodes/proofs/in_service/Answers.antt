-- `nodes::in_service` meets its contract. Assumes nothing.
use borrow.Author.Rules.{rules}
use Rattle.nodes.proofs.Reading.{in_service_is}
use Rattle.nodes.proofs.in_service.Goals as goal

pub returns : goal.returns
returns c = in_service_is _ _ _ _ c.node_place-at.ensures
