-- `text_units::units_of` meets its contract. Assumes nothing.
use borrow.Author.Rules.{rules}
use Rattle.text_units.specs.Units.{units_of}
use Rattle.text_units.proofs.units_of.Goals as goal

pub returns : goal.returns
unfolding units_of
returns c = rw c.factor.ensures
