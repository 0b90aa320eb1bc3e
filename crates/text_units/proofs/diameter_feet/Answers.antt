-- `text_units::diameter_feet` meets its contract. Assumes nothing.
use Rattle.text_units.specs.Units.{diameter_feet}
use Rattle.text_units.proofs.diameter_feet.Goals as goal

pub returns-then-u : goal.returns-then-u
unfolding diameter_feet
returns-then-u c = rw c.if-u.true

pub returns : goal.returns
unfolding diameter_feet
returns c = rw c.if-u.false
