-- `fields::fields::pressures_good` meets its contract. Assumes nothing.
use borrow.Author.Rules.{rules}
use Rattle.fields.proofs.Made.{pressures_good_lem}
use Rattle.fields.proofs.fields.pressures_good.Goals as goal

pub returns : goal.returns
returns c = pressures_good_lem c.args.sheet.now c.args.b _ _ _ c.all_within.ensures c.from_bytes.ensures c.from_bytes-2.ensures
