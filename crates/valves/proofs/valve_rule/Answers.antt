-- `valves::valve_rule` meets its contract. Assumes nothing.
use Rattle.valves.proofs.Made.{closed_valve, open_valve_lem, other_valve}
use borrow.Author.Rules.{rules}
use Rattle.valves.proofs.valve_rule.Goals as goal

pub returns-in-Closed : goal.returns-in-Closed
returns-in-Closed c = closed_valve _ _ c.in-Closed.in-Closed-own.keys1 _ _ _ _ _ _ c.simple.ensures

pub returns-in-Open : goal.returns-in-Open
returns-in-Open c = open_valve_lem _ _ c.in-Open.in-Open-own.keys2 _ _ _ _ _ _ _ c.minor_loss.ensures c.valve_coefficients.ensures

pub returns-in_default : goal.returns-in_default
returns-in_default c = other_valve _ _ c.in_default.in_default-own.keys3 _ _ _ _ _ _ _ c.is_active.ensures c.regulator.ensures
