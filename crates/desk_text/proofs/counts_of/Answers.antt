-- `desk_text::counts_of` meets its contract. Assumes nothing.
use mathlib.Core.Path.{refl}
use Rattle.desk_text.specs.Told.{counts_of}
use Rattle.desk_text.proofs.counts_of.Goals as goal

pub returns : goal.returns
unfolding counts_of
returns c = refl
