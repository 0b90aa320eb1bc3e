-- `held_numbers::answer_in` meets its contract. Assumes nothing.
use mathlib.Core.Path.{refl}
use borrow.Author.Rules.{rules}
use Rattle.held.specs.Held.{answer_in}
use Rattle.held_numbers.proofs.answer_in.Goals as goal

pub returns : goal.returns
unfolding answer_in
returns c = refl
