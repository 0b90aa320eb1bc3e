-- `damping::steps::converged` meets its contract. Assumes nothing.
use Rattle.damping.specs.Damping.{converged_of}
use borrow.Author.Rules.{rules}
use Rattle.damping.proofs.steps.converged.Goals as goal

pub returns : goal.returns
unfolding converged_of
returns c = simp (c.flow_limit.ensures, c.factor.ensures)
