-- `step::judge` meets its contract. Assumes nothing.
use borrow.Author.Rules.{rules}
use Rattle.step.proofs.Laws.{judged_converged, judged_stepped}
use Rattle.step.proofs.judge.Goals as goal

pub returns-then-converged : goal.returns-then-converged
returns-then-converged c = judged_converged _ _ _ _ _ c.relative_change-change.ensures _ c.converged.ensures c.if-converged.true

pub returns : goal.returns
returns c = judged_stepped _ _ _ _ _ c.relative_change-change.ensures _ c.converged.ensures _ c.damped.ensures c.if-converged.false
