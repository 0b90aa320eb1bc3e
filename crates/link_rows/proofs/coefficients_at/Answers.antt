-- `link_rows::coefficients_at` meets its contract. Assumes nothing.
use Rattle.link_rows.proofs.Laws.{coefficients_of_lem}
use borrow.Author.Rules.{rules}
use Rattle.link_rows.proofs.coefficients_at.Goals as goal

pub returns : goal.returns
returns c = coefficients_of_lem _ _ _ _ _ _ _ _ _ _ _ c.from-status.ensures c.elevation-up.ensures c.elevation-down.ensures c.coefficients.ensures
