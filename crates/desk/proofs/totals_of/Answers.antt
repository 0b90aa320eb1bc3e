-- `desk::totals_of` meets its contract. Assumes nothing.
use mathlib.Core.Path.{refl}
use Rattle.desk.specs.Desk.{totals_of}
use Rattle.desk.proofs.totals_of.Goals as goal

pub returns : goal.returns
unfolding totals_of
returns c = refl
