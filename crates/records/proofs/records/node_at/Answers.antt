-- `records::records::node_at` meets its contract. Assumes nothing.
use borrow.Author.Rules.{rules}
use Rattle.records.proofs.Laws.{node}
use Rattle.records.proofs.records.node_at.Goals as goal

pub returns : goal.returns
returns c = node c.args.sheet.now c.args.at _ _ _ _ _ _ c.from.ensures c.from_bytes.ensures c.from_bytes-2.ensures c.from_bytes-3.ensures c.from_bytes-4.ensures c.from_bytes-5.ensures
