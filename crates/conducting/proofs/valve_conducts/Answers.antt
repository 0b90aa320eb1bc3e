-- `conducting::valve_conducts` meets its contract. Assumes nothing.
use borrow.Author.Rules.{rules}
use Rattle.conducting.specs.Conducting.{valve_conducts}
use Rattle.conducting.proofs.Made.{valve_shut, valve_open, valve_freed}
use Rattle.conducting.proofs.valve_conducts.Goals as goal

pub returns-in-Closed : goal.returns-in-Closed
returns-in-Closed c = valve_shut _ _ _ _ c.in-Closed.in-Closed-own.keys1

pub returns-in-Open : goal.returns-in-Open
returns-in-Open c = valve_open _ _ _ _ c.in-Open.in-Open-own.keys2

pub returns-in-Active : goal.returns-in-Active
unfolding valve_conducts
returns-in-Active c = simp (c.controlled.ensures, c.in-Active.is)

pub returns-in_default : goal.returns-in_default
returns-in_default c = valve_freed _ _ _ _ c.in_default.in_default-own.keys4 _ c.controlled-in_default.ensures
