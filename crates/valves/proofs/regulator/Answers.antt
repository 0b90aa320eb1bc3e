-- `valves::regulator` meets its contract. Assumes nothing.
use Rattle.valves.specs.Valve.{regulator_of}
use borrow.Author.Rules.{rules}
use Rattle.valves.proofs.regulator.Goals as goal

pub returns-then-active : goal.returns-then-active
unfolding regulator_of
returns-then-active c = simp (c.prv.ensures, c.in-Prv.is, c.if-active.true)

pub returns-then-active-2 : goal.returns-then-active-2
unfolding regulator_of
returns-then-active-2 c = simp (c.psv.ensures, c.in-Psv.is, c.if-active-2.true)

pub returns-in-Tcv : goal.returns-in-Tcv
unfolding regulator_of
returns-in-Tcv c = simp (c.valve_coefficients.ensures, c.minor_loss.ensures, c.in-Tcv.is)

pub returns-in-Pbv : goal.returns-in-Pbv
unfolding regulator_of
returns-in-Pbv c = simp (c.simple.ensures, c.in-Pbv.is)

pub returns-in-Pcv : goal.returns-in-Pcv
unfolding regulator_of
returns-in-Pcv c = simp (c.valve_coefficients-in-Pcv.ensures, c.pcv_minor_loss.ensures, c.in-Pcv.is)

pub returns-in-Fcv : goal.returns-in-Fcv
unfolding regulator_of
returns-in-Fcv c = simp (c.fcv.ensures, c.in-Fcv.is)

pub returns-else-active : goal.returns-else-active
unfolding regulator_of
returns-else-active c = simp (c.simple-in-Prv.ensures, c.in-Prv.is, c.if-active.false)

pub returns-else-active-2 : goal.returns-else-active-2
unfolding regulator_of
returns-else-active-2 c = simp (c.simple-in-Psv.ensures, c.in-Psv.is, c.if-active-2.false)

pub returns-in-Pipe : goal.returns-in-Pipe
unfolding regulator_of
returns-in-Pipe c = simp (c.simple-in-Pipe.ensures, c.in-Pipe.is)
