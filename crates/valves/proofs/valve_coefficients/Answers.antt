-- `valves::valve_coefficients` meets its contract. Assumes nothing.
use Rattle.valves.specs.Valve.{valve_coefficients}
use borrow.Author.Rules.{rules}
use Rattle.valves.proofs.valve_coefficients.Goals as goal

pub returns-then-hgrad : goal.returns-then-hgrad
unfolding valve_coefficients
returns-then-hgrad c = simp (c.simple.ensures, ← c.abs.ensures, c.if-km.true, c.if-hgrad.true)

pub returns-then-km : goal.returns-then-km
unfolding valve_coefficients
returns-then-km c = simp (c.simple-then-km.ensures, ← c.abs.ensures, c.if-km.true, c.if-hgrad.false)

pub returns : goal.returns
unfolding valve_coefficients
returns c = simp (c.simple-2.ensures, c.if-km.false)
