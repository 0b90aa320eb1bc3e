-- `link_laws::is_slight` meets its contract. Assumes nothing.
use borrow.Author.Rules.{rules}
use Rattle.link_laws.proofs.Changes.{slight_is}
use Rattle.link_laws.proofs.is_slight.Goals as goal

pub returns : goal.returns
returns c = slight_is c.args.m c.args.g c.args.limits _ _ c.within-by_flow.ensures c.within-by_head.ensures
