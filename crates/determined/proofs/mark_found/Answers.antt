-- `determined::mark_found` meets its contract. Assumes nothing.
use borrow.Author.Rules.{rules}
use Rattle.determined.proofs.Laws.{mark_none, mark_at}
use Rattle.determined.proofs.mark_found.Goals as goal

pub returns-in_default : goal.returns-in_default
returns-in_default c = mark_none _ _ c.in_default.is

pub bounds-held-i : goal.bounds-held-i
bounds-held-i c = c.requires.below _ c.in-Some.is

pub returns : goal.returns
returns c = mark_at _ _ _ c.in-Some.is
