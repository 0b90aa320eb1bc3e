-- `stream::at_nodes` meets its contract. Assumes nothing.
use mathlib.Core.Path.{◌∙◌}
use borrow.Author.Rules.{rules}
use Rattle.stream.proofs.Steps.{first_link, next_node}
use Rattle.stream.proofs.at_nodes.Goals as goal

pub returns-then-got-b : goal.returns-then-got-b
returns-then-got-b c = c.in_links.ensures ∙ first_link _ _ _ _ c.if-got-b.true

pub returns : goal.returns
returns c = c.in_nodes.ensures ∙ next_node _ _ _ _ c.if-got-b.false
