-- `answers::failed` meets its contract. Assumes nothing.
use mathlib.Core.Path.{refl}
use Rattle.answers.specs.Answers.{failed_of}
use Rattle.answers.proofs.failed.Goals as goal

pub returns : goal.returns
unfolding failed_of
returns c = refl
