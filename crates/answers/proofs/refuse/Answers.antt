-- `answers::refuse` meets its contract. Assumes nothing.
use borrow.Author.Rules.{rules}
use Rattle.answers.proofs.Laws.{refused_as}
use Rattle.answers.proofs.refuse.Goals as goal

pub returns : goal.returns
returns c = refused_as _ _ _ _ c.refusal_number.ensures c.refusal_place.ensures c.refused.ensures
