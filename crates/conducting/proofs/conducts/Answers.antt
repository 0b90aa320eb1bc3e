-- `conducting::conducts` meets its contract. Assumes nothing.
use borrow.Enum.Refused.{opened}
use borrow.Author.Rules.{rules}
use Rattle.conducting.specs.Conducting.{conducts_of}
use Rattle.conducting.proofs.Made.{of_valve}
use Rattle.conducting.proofs.conducts.Goals as goal

pub returns-in-Pipe : goal.returns-in-Pipe
unfolding conducts_of
returns-in-Pipe c = simp (c.pipe_conducts.ensures, c.in-Pipe.is)

pub returns : goal.returns
returns c = of_valve _ _ _ _ (opened c.in_default.in_default-own.keys2) c.valve_conducts.ensures
