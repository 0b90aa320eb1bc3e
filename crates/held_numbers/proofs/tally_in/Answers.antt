-- `held_numbers::tally_in` meets its contract. Assumes nothing.
use mathlib.Core.Path.{refl}
use borrow.Author.Rules.{rules}
use Rattle.held.specs.Held.{tally_in}
use Rattle.held_numbers.proofs.tally_in.Goals as goal

pub returns : goal.returns
unfolding tally_in
returns c = refl
