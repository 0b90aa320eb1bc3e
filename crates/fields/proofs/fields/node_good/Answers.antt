-- `fields::fields::node_good` meets its contract. Assumes nothing.
use borrow.Author.Rules.{rules}
use Rattle.fields.proofs.Made.{node_good_lem}
use Rattle.fields.proofs.fields.node_good.Goals as goal

pub returns : goal.returns
returns c = node_good_lem c.args.sheet.now c.args.b c.args.at _ c.all_within.ensures
