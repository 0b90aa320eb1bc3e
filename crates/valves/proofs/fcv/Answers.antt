-- `valves::fcv` meets its contract. Assumes nothing.
use Rattle.valves.specs.Valve.{fcv_of}
use borrow.Author.Rules.{rules}
use Rattle.valves.proofs.fcv.Goals as goal

pub returns-then-q-setting : goal.returns-then-q-setting
unfolding fcv_of
returns-then-q-setting c = simp (c.valve_coefficients-c.ensures, c.if-q-setting.true)

pub returns : goal.returns
unfolding fcv_of
returns c = simp (c.simple.ensures, c.valve_coefficients-c.ensures, c.if-q-setting.false)
