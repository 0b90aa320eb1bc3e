-- `fields::fields::link_good` meets its contract. Assumes nothing.
use borrow.Author.Rules.{rules}
use Rattle.fields.proofs.Made.{link_good_lem}
use Rattle.fields.proofs.fields.link_good.Goals as goal

pub returns : goal.returns
returns c = link_good_lem c.args.sheet.now c.args.b c.args.nodes c.args.at _ _ c.link_codes.ensures c.link_numbers.ensures
