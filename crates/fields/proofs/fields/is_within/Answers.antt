-- `fields::fields::is_within` meets its contract. Assumes nothing.
use mathlib.Core.Path.{ap}
use lib.Ieee.{Float, le}
use borrow.Author.Rules.{rules}
use Rattle.fields.specs.Fields.{within}
use Rattle.fields.proofs.fields.is_within.Goals as goal

pub returns : goal.returns
unfolding within
returns c = ap (λ (y : Float). le y c.args.b.magnitude) c.abs.ensures
