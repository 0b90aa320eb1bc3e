-- `layout::places::link_place` meets its contract. Assumes nothing.
use native.Mathlib.Omega.{arith}
use mathlib.Core.Path.{refl}
use Rattle.layout.specs.Places.{link_place}
use Rattle.layout.proofs.places.link_place.Goals as goal

pub overflow_mul-result : goal.overflow_mul-result
unfolding link_place
overflow_mul-result c = record { fits = omega arith }

pub overflow_add-result : goal.overflow_add-result
unfolding link_place
overflow_add-result c = record { fits = omega arith }

pub returns : goal.returns
unfolding link_place
returns c = refl
