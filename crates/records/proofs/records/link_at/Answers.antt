-- `records::records::link_at` meets its contract. Assumes nothing.
use borrow.Author.Rules.{rules}
use Rattle.records.proofs.Laws.{link}
use Rattle.records.proofs.records.link_at.Goals as goal

pub returns : goal.returns
returns c = link c.args.sheet.now c.args.at _ _ _ _ _ _ _ _ _ c.from.ensures c.from-2.ensures c.pair_at.ensures c.pair_at-2.ensures c.from_bytes.ensures c.from_bytes-2.ensures c.from_bytes-3.ensures c.from_bytes-4.ensures c.from_bytes-5.ensures
