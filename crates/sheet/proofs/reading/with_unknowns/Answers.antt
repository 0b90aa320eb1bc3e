-- `sheet::reading::with_unknowns` meets its contract. Assumes nothing.
use mathlib.Core.Path.{ap}
use Prim.Native.Nat.{ℕ}
use Rattle.layout.specs.declared.places.Layout.{Layout}
use Rattle.sheet.specs.Read.{with_unknowns}
use Rattle.sheet.proofs.reading.with_unknowns.Goals as goal

pub count_serving-requires : goal.count_serving-requires
count_serving-requires c = c.requires

pub returns : goal.returns
unfolding with_unknowns
returns c = rw c.count_serving.ensures
