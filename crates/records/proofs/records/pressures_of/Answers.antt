-- `records::records::pressures_of` meets its contract. Assumes nothing.
use borrow.Author.Rules.{rules}
use Rattle.records.specs.Records.{pressures_of}
use Rattle.records.proofs.records.pressures_of.Goals as goal

pub returns : goal.returns
unfolding pressures_of
returns c = rw (c.from_bytes.ensures, c.from_bytes-2.ensures)
