-- `text_units::pressure_feet` meets its contract. Assumes nothing.
use Rattle.text_units.specs.Units.{pressure_feet}
use Rattle.text_units.proofs.pressure_feet.Goals as goal

pub returns-then-u : goal.returns-then-u
unfolding pressure_feet
returns-then-u c = rw c.if-u.true

pub returns : goal.returns
unfolding pressure_feet
returns c = rw c.if-u.false
