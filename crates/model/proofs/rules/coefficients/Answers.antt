-- `model::rules::coefficients` meets its contract. Assumes nothing.
use borrow.Enum.Refused.{opened}
use Rattle.model.specs.Rules.{coefficients_of}
use Rattle.model.proofs.Made.{of_valve}
use borrow.Author.Rules.{rules}
use Rattle.model.proofs.rules.coefficients.Goals as goal

pub returns-in-Pipe : goal.returns-in-Pipe
unfolding coefficients_of
returns-in-Pipe c = simp (c.pipe_rule.ensures, c.in-Pipe.is)

pub returns : goal.returns
returns c = of_valve _ _ _ _ _ _ _ _ (opened c.in_default.in_default-own.keys2) c.valve_rule.ensures
