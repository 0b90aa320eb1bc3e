-- `desk::desk_verdict` meets its contract, for any sheet, any limits and any buffers. Assumes nothing.
use mathlib.Core.Path.{ap, ◌∙◌}
use borrow.Author.Rules.{rules}
use Rattle.sale.specs.Sale.{Sale}
use Rattle.desk.specs.Desk.{counts_of, totals_of, place_of}
use Rattle.desk.proofs.desk_verdict.Goals as goal

pub returns-clause-lent : goal.returns-clause-lent
returns-clause-lent c = ap (λ (o : Sale). o.lent) c.sell-s.ensures

pub returns-clause-counts : goal.returns-clause-counts
returns-clause-counts c = c.counts_of.ensures ∙ ap (λ (o : Sale). counts_of o.answer) c.sell-s.ensures

pub returns-clause-totals : goal.returns-clause-totals
returns-clause-totals c = c.totals_of.ensures ∙ ap (λ (o : Sale). totals_of o.answer) c.sell-s.ensures

pub returns-clause-verdict : goal.returns-clause-verdict
returns-clause-verdict c = c.place_of.ensures ∙ ap (λ (o : Sale). place_of o.verdict) c.sell-s.ensures
