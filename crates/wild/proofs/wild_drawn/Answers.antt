-- `wild::wild_drawn` meets its contract. Assumes nothing.
use Rattle.wild.proofs.Wilds.{found_below, drawn_none, drawn_found}
use borrow.Author.Rules.{rules}
use native.Mathlib.Omega.{arith}
use mathlib.Core.Path.{sym, ◌∙◌}
use Rattle.wild.proofs.wild_drawn.Goals as goal

pub returns-then-not-l : goal.returns-then-not-l
returns-then-not-l c = drawn_none _ _ c.if-not-l.true

pub overflow_add-result : goal.overflow_add-result
overflow_add-result c = omega (arith, found_below _ _ _ (sym c.first_wild.ensures ∙ c.in-Some.is))

pub returns-in-Some : goal.returns-in-Some
returns-in-Some c = drawn_found _ _ _ c.if-not-l.false (sym c.first_wild.ensures ∙ c.in-Some.is)

pub returns-in-None : goal.returns-in-None
returns-in-None c = drawn_found _ _ _ c.if-not-l.false (sym c.first_wild.ensures ∙ c.in-None.is)
