-- `ends::ends::ends_good` meets its contract. Assumes nothing.
use borrow.Author.Rules.{rules}
use Rattle.ends.proofs.Made.{ends_good_lem}
use Rattle.ends.proofs.ends.ends_good.Goals as goal

pub returns : goal.returns
returns c = ends_good_lem c.args.sheet.now c.args.l c.args.at _ _ _ _ c.pair_at-start.ensures c.pair_at-end.ensures c.in_service.ensures c.in_service-2.ensures
