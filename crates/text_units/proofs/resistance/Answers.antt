-- `text_units::resistance` meets its contract. Assumes nothing.
use borrow.Author.Rules.{rules}
use Rattle.text_units.specs.Units.{resistance_of}
use Rattle.text_units.proofs.resistance.Goals as goal

pub returns : goal.returns
unfolding resistance_of
returns c = rw (c.power.ensures, c.power_871.ensures)
