-- `mending::move_end` meets its contract. Assumes nothing.
use native.Mathlib.Omega.{arith}
use Prim.Native.Nat.{◌<◌}
use mathlib.Core.Path.{refl}
use Rattle.touching.specs.Touching.{in_column}
use Rattle.mending.proofs.Mended.{seekable, end_stays, on_fits, on_some, on-mended, back_fits, back_some, back-mended, more_than}
use Rattle.mending.proofs.move_end.Goals as goal

pub returns-then-x-y-clause-end : goal.returns-then-x-y-clause-end
unfolding in_column
returns-then-x-y-clause-end c =
    (end_stays c.args.moved.now c.args.other.now _ _ _ _ _ _ c.requires.listed c.if-x-y.true).0

pub returns-then-x-y-clause-list : goal.returns-then-x-y-clause-list
unfolding in_column
returns-then-x-y-clause-list c =
    (end_stays c.args.moved.now c.args.other.now _ _ _ _ _ _ c.requires.listed c.if-x-y.true).1

pub seek-here-requires : goal.seek-here-requires
unfolding in_column
seek-here-requires c = seekable _ _ _ _ _ _ c.requires.listed _ _ c.requires.goes.was_in c.requires.goes.in_links_said

pub seek-there-requires : goal.seek-there-requires
unfolding in_column
seek-there-requires c = seekable _ _ _ _ _ _ c.requires.listed _ _ c.requires.goes.is_in c.requires.goes.in_links_said

pub overflow_sub-there : goal.overflow_sub-there
unfolding in_column
overflow_sub-there c = omega (arith, (on_fits _ _ _ _ _ _ _ _ c.requires.listed c.requires.goes c.if-x-y.false _ _ c.seek-here.ensures c.seek-there.ensures c.if-x-y-2.true).0)

pub lower-requires : goal.lower-requires
unfolding in_column
lower-requires c = (on_fits _ _ _ _ _ _ _ _ c.requires.listed c.requires.goes c.if-x-y.false _ _ c.seek-here.ensures c.seek-there.ensures c.if-x-y-2.true).1

pub place_less-requires-clause-x_lt_y : goal.place_less-requires-clause-x_lt_y
unfolding in_column
place_less-requires-clause-x_lt_y c = (c.if-x-y-2.true, omega (arith, c.requires.listed.places_long, c.requires.goes.is_in))

pub place_less-requires-clause-by_index : goal.place_less-requires-clause-by_index
unfolding in_column
place_less-requires-clause-by_index c = on_some _ _ _ _ _ _ _ _ c.requires.listed c.requires.goes c.if-x-y.false _ _ c.seek-here.ensures c.seek-there.ensures c.if-x-y-2.true

pub raise-requires : goal.raise-requires
unfolding in_column
raise-requires c =
    let down : c.args.y < in_column c.args.moved.now c.args.j = more_than c.if-x-y-2.false c.if-x-y.false in
    back_fits _ _ _ _ _ _ _ _ c.requires.listed c.requires.goes c.if-x-y.false _ _ c.seek-here.ensures c.seek-there.ensures down

pub place_more-requires-clause-x_lt_y : goal.place_more-requires-clause-x_lt_y
unfolding in_column
place_more-requires-clause-x_lt_y c =
    let down : c.args.y < in_column c.args.moved.now c.args.j = more_than c.if-x-y-2.false c.if-x-y.false in
    (down, omega (arith, c.requires.listed.places_long, c.requires.goes.was_in))

pub place_more-requires-clause-by_index : goal.place_more-requires-clause-by_index
unfolding in_column
place_more-requires-clause-by_index c =
    let down : c.args.y < in_column c.args.moved.now c.args.j = more_than c.if-x-y-2.false c.if-x-y.false in
    λ i a b. omega (arith, back_some _ _ _ _ _ _ _ _ c.requires.listed c.requires.goes c.if-x-y.false _ _ c.seek-here.ensures c.seek-there.ensures down i b, c.well_formed)

pub returns-then-x-y-2-clause-end : goal.returns-then-x-y-2-clause-end
unfolding in_column
returns-then-x-y-2-clause-end c = refl

pub returns-then-x-y-2-clause-list : goal.returns-then-x-y-2-clause-list
unfolding in_column
returns-then-x-y-2-clause-list c = on-mended _ _ _ _ _ _ _ _ c.requires.listed c.requires.goes c.if-x-y.false _ _ c.seek-here.ensures c.seek-there.ensures c.if-x-y-2.true _ _ c.lower.ensures c.place_less.ensures

pub returns-else-x-y-2-clause-end : goal.returns-else-x-y-2-clause-end
unfolding in_column
returns-else-x-y-2-clause-end c =
    let down : c.args.y < in_column c.args.moved.now c.args.j = more_than c.if-x-y-2.false c.if-x-y.false in
    refl

pub returns-else-x-y-2-clause-list : goal.returns-else-x-y-2-clause-list
unfolding in_column
returns-else-x-y-2-clause-list c =
    let down : c.args.y < in_column c.args.moved.now c.args.j = more_than c.if-x-y-2.false c.if-x-y.false in
    back-mended _ _ _ _ _ _ _ _ c.requires.listed c.requires.goes c.if-x-y.false _ _ c.seek-here.ensures c.seek-there.ensures down _ _ c.raise.ensures c.place_more.ensures
