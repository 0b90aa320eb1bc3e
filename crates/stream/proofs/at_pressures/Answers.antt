-- `stream::at_pressures` meets its contract. Assumes nothing.
use mathlib.Core.Path.{◌∙◌}
use borrow.Author.Rules.{rules}
use Rattle.stream.proofs.Steps.{some_pressures, no_pressures}
use Rattle.stream.proofs.at_pressures.Goals as goal

pub returns-then-got-b : goal.returns-then-got-b
returns-then-got-b c = c.in_pressures.ensures ∙ some_pressures _ _ c.if-got-b.true

pub returns : goal.returns
returns c = c.at_nodes.ensures ∙ no_pressures _ _ c.if-got-b.false
