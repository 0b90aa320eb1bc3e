-- `held_numbers::damping_in` meets its contract. Assumes nothing.
use mathlib.Core.Path.{refl}
use borrow.Author.Rules.{rules}
use Rattle.held.specs.Held.{damping_in}
use Rattle.held_numbers.proofs.damping_in.Goals as goal

pub returns : goal.returns
unfolding damping_in
returns c = refl
