-- `records::records::pair_at` meets its contract. Assumes nothing.
use borrow.Author.Rules.{rules}
use Rattle.records.specs.Records.{pair_at}
use Rattle.records.proofs.records.pair_at.Goals as goal

pub returns : goal.returns
unfolding pair_at
returns c = c.two_bytes.ensures.0
