-- `from_text::from_text` meets its contract: a line is refused, or what is known is put. Assumes nothing.
use Rattle.std.proofs.Common.{ap, ◌∙◌, ℕ}
use Rattle.from_text.specs.FromText.{refused}
use Rattle.from_text.proofs.Laws.{line_refused, all_taken}
use Rattle.from_text.proofs.from_text.Goals as goal

pub returns-in-Ok : goal.returns-in-Ok
returns-in-Ok c = all_taken _ _ _ _ _ c.survey-v.ensures.told _ c.in-Ok.is c.put_known.ensures

pub returns-in-Err : goal.returns-in-Err
returns-in-Err c = line_refused _ _ _ _ _ c.survey-v.ensures.told _ _ c.in-Err.is (c.refused.ensures ∙ ap (λ (n : ℕ). refused n c.in-Err.at.line) c.from.ensures)
