-- `wild::wild_place` meets its contract. Assumes nothing.
use Rattle.wild.proofs.Wilds.{found_below, wild_node, wild_link, wild_last}
use borrow.Author.Rules.{rules}
use native.Mathlib.Omega.{arith}
use mathlib.Core.Path.{sym, ◌∙◌}
use Rattle.wild.proofs.wild_place.Goals as goal

pub overflow_add-result : goal.overflow_add-result
overflow_add-result c =
    let e = found_below _ _ _ (sym c.first_wild-in-None.ensures ∙ c.in-Some-first_wild.is) in
    omega (arith, e)

pub returns-in-Some : goal.returns-in-Some
returns-in-Some c = wild_node _ _ _ _ _ (sym c.first_wild.ensures ∙ c.in-Some.is)

pub returns-in-Some-first_wild : goal.returns-in-Some-first_wild
returns-in-Some-first_wild c = wild_link _ _ _ _ _ (sym c.first_wild.ensures ∙ c.in-None.is) (sym c.first_wild-in-None.ensures ∙ c.in-Some-first_wild.is)

pub returns-in-None-first_wild : goal.returns-in-None-first_wild
returns-in-None-first_wild c = wild_last _ _ _ _ _ (sym c.first_wild.ensures ∙ c.in-None.is) (sym c.first_wild-in-None.ensures ∙ c.in-None-first_wild.is) c.wild_drawn.ensures
