-- `reach::follow` meets its contract. Assumes nothing.
use borrow.Author.Rules.{rules}
use Rattle.reach.proofs.Laws.{follow_of}
use Rattle.reach.proofs.follow.Goals as goal

pub returns-clause-reached_after : goal.returns-clause-reached_after
returns-clause-reached_after c =
    (follow_of _ _ _ _ _ _ _ _ c.pass-there.ensures.reached_after c.pass-there.ensures.value c.pass-back.ensures.reached_after c.pass-back.ensures.value).0

pub returns-clause-value : goal.returns-clause-value
returns-clause-value c =
    (follow_of _ _ _ _ _ _ _ _ c.pass-there.ensures.reached_after c.pass-there.ensures.value c.pass-back.ensures.reached_after c.pass-back.ensures.value).1
