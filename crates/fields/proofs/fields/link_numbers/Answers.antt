-- `fields::fields::link_numbers` meets its contract. Assumes nothing.
use borrow.Author.Rules.{rules}
use Rattle.fields.proofs.Made.{link_numbers_lem}
use Rattle.fields.proofs.fields.link_numbers.Goals as goal

pub returns : goal.returns
returns c = link_numbers_lem c.args.sheet.now c.args.b c.args.at _ _ _ _ c.all_within.ensures c.from_bytes.ensures c.from_bytes-2.ensures c.from_bytes-3.ensures
