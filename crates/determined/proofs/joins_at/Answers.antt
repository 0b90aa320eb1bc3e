-- `determined::joins_at` meets its contract. Assumes nothing.
use borrow.Author.Rules.{rules}
use Rattle.determined.proofs.Laws.{joins_of_lem}
use Rattle.determined.proofs.joins_at.Goals as goal

pub returns : goal.returns
returns c = joins_of_lem _ _ _ _ _ _ _ _ _ c.link-k.ensures c.link_serves.ensures c.from.ensures c.conducts.ensures
