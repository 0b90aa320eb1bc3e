-- `text_units::feet` meets its contract. Assumes nothing.
use Rattle.text_units.specs.Units.{feet_of}
use Rattle.text_units.proofs.feet.Goals as goal

pub returns-then-u : goal.returns-then-u
unfolding feet_of
returns-then-u c = rw c.if-u.true

pub returns : goal.returns
unfolding feet_of
returns c = rw c.if-u.false
