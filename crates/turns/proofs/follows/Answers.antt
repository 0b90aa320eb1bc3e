-- `turns::follows` meets its contract. Assumes nothing.
use borrow.Author.Rules.{rules}
use Rattle.turns.proofs.Laws.{follow_on, follow_limit, follow_over}
use Rattle.turns.proofs.follows.Goals as goal

pub returns-then-turn-trials : goal.returns-then-turn-trials
returns-then-turn-trials c = follow_on _ _ _ _ c.in-Continue.is c.if-turn-trials.true

pub returns-else-turn-trials : goal.returns-else-turn-trials
returns-else-turn-trials c = follow_limit _ _ _ _ c.in-Continue.is c.if-turn-trials.false

pub returns-in-Break : goal.returns-in-Break
returns-in-Break c = follow_over _ _ _ _ c.in-Break.is
