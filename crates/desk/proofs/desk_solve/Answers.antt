-- `desk::desk_solve` meets its contract, for any sheet and any buffers. Assumes nothing.
use mathlib.Core.Path.{ap, ◌∙◌}
use borrow.Author.Rules.{rules}
use Rattle.answers.specs.Answers.{Solved}
use Rattle.desk.specs.Desk.{counts_of, totals_of}
use Rattle.desk.proofs.desk_solve.Goals as goal

pub returns-clause-lent : goal.returns-clause-lent
returns-clause-lent c = ap (λ (o : Solved). o.lent) c.solve-a.ensures

pub returns-clause-counts : goal.returns-clause-counts
returns-clause-counts c = c.counts_of.ensures ∙ ap (λ (o : Solved). counts_of o.answer) c.solve-a.ensures

pub returns-clause-totals : goal.returns-clause-totals
returns-clause-totals c = c.totals_of.ensures ∙ ap (λ (o : Solved). totals_of o.answer) c.solve-a.ensures
