-- `fields::fields::link_codes` meets its contract. Assumes nothing.
use borrow.Author.Rules.{rules}
use Rattle.fields.proofs.Made.{link_codes_lem}
use Rattle.fields.proofs.fields.link_codes.Goals as goal

pub returns : goal.returns
returns c = link_codes_lem c.args.sheet.now c.args.nodes c.args.at _ _ c.pair_at.ensures c.pair_at-2.ensures
