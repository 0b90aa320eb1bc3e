-- `conducting::pipe_conducts` meets its contract. Assumes nothing.
use borrow.Enum.Refused.{opened}
use Rattle.conducting.proofs.Made.{pipe_shut, pipe_carries}
use Rattle.conducting.proofs.pipe_conducts.Goals as goal

pub returns-in-Closed : goal.returns-in-Closed
returns-in-Closed c = pipe_shut _ _ _ c.in-Closed.in-Closed-own.keys1

pub returns : goal.returns
returns c = pipe_carries _ _ _ (opened c.in_default.in_default-own.keys2)
