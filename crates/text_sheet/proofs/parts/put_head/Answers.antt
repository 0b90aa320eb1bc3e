-- `text_sheet::parts::put_head` meets its contract. Assumes nothing.
use native.Mathlib.Omega.{arith}
use Rattle.words.proofs.Laws.{then}
use Rattle.text_sheet.specs.Sheet.{options_in}
use Rattle.text_sheet.proofs.Laws.{head_plain, head_bends}
use Rattle.text_sheet.proofs.Sizes.{size_least, size_bends}
use Rattle.text_sheet.proofs.parts.put_head.Goals as goal

pub put_options-end-requires : goal.put_options-end-requires
put_options-end-requires c = omega (arith, c.requires, size_least c.args.o)

pub put_pressures-requires : goal.put_pressures-requires
put_pressures-requires c = omega (arith, c.requires, c.put_options-end.ensures.value, c.put_options-end.auto.out, size_bends c.args.o 0 0 c.if-o.true)

pub returns-then-o : goal.returns-then-o
unfolding options_in
returns-then-o c = head_bends _ _ _ _ c.if-o.true c.units_of-u.ensures c.pressure_feet.ensures c.pressure_feet-then-o.ensures (then c.put_options-end.ensures.put c.put_pressures.ensures.put)

pub returns : goal.returns
unfolding options_in
returns c = head_plain _ c.if-o.false c.put_options-end.ensures.put
