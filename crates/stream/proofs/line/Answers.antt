-- `stream::line` meets its contract. Assumes nothing.
use borrow.Author.Rules.{rules}
use Rattle.stream.proofs.Steps.{lined}
use Rattle.stream.proofs.line.Goals as goal

pub returns-clause-text : goal.returns-clause-text
returns-clause-text c =
    (lined _ _ _ _ _ _ c.refusal_number.ensures c.refusal_place.ensures c.answer_line.ensures.text c.answer_line.ensures.end).0

pub returns-clause-end : goal.returns-clause-end
returns-clause-end c =
    (lined _ _ _ _ _ _ c.refusal_number.ensures c.refusal_place.ensures c.answer_line.ensures.text c.answer_line.ensures.end).1.0

pub returns-clause-few : goal.returns-clause-few
returns-clause-few c =
    (lined _ _ _ _ _ _ c.refusal_number.ensures c.refusal_place.ensures c.answer_line.ensures.text c.answer_line.ensures.end).1.1
