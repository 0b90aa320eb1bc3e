-- `reach::pass` meets its contract. Assumes nothing.
use borrow.Author.Rules.{rules}
use Rattle.reach.proofs.Laws.{pass_marks, pass_leaves}
use Rattle.reach.proofs.pass.Goals as goal

pub returns-then-on-reached-clause-reached_after : goal.returns-then-on-reached-clause-reached_after
returns-then-on-reached-clause-reached_after c =
    (pass_marks _ _ _ _ c.if-on-reached.true).0

pub returns-then-on-reached-clause-value : goal.returns-then-on-reached-clause-value
returns-then-on-reached-clause-value c =
    (pass_marks _ _ _ _ c.if-on-reached.true).1

pub returns-clause-reached_after : goal.returns-clause-reached_after
returns-clause-reached_after c =
    (pass_leaves _ _ _ _ c.if-on-reached.false).0

pub returns-clause-value : goal.returns-clause-value
returns-clause-value c =
    (pass_leaves _ _ _ _ c.if-on-reached.false).1
