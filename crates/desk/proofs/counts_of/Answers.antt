-- `desk::counts_of` meets its contract. Assumes nothing.
use mathlib.Core.Path.{refl}
use Rattle.desk.specs.Desk.{counts_of}
use Rattle.desk.proofs.counts_of.Goals as goal

pub returns : goal.returns
unfolding counts_of
returns c = refl
