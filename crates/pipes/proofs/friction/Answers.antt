-- `pipes::friction` meets its contract. Assumes nothing.
use Rattle.pipes.proofs.Made.{friction_linear, friction_curved}
use borrow.Author.Rules.{rules}
use Rattle.pipes.proofs.friction.Goals as goal

pub returns-then-hgrad : goal.returns-then-hgrad
returns-then-hgrad c = friction_linear _ _ _ c.power.ensures c.if-hgrad.true

pub returns : goal.returns
returns c = friction_curved _ _ _ c.power.ensures c.if-hgrad.false
