-- `pipes::pipe_rule` meets its contract. Assumes nothing.
use borrow.Enum.Refused.{opened}
use Rattle.pipes.proofs.Made.{closed, barred, free}
use borrow.Author.Rules.{rules}
use Rattle.pipes.proofs.pipe_rule.Goals as goal

pub returns-in-Closed : goal.returns-in-Closed
returns-in-Closed c = closed _ _ _ _ _ c.in-Closed.in-Closed-own.keys1 _ c.simple.ensures

pub returns-then-check : goal.returns-then-check
returns-then-check c = barred _ _ _ _ _ (opened c.in_default.in_default-own.keys2) _ _ _ _ _ c.abs-q_abs.ensures c.friction.ensures c.with_minor-l.ensures c.signum.ensures c.if-check.true c.add_cv_head_loss.ensures

pub returns : goal.returns
returns c = free _ _ _ _ _ (opened c.in_default.in_default-own.keys2) _ _ _ _ _ c.abs-q_abs.ensures c.friction.ensures c.with_minor-l.ensures c.signum.ensures c.if-check.false c.simple-2.ensures
