-- `text_sheet::names::put_names` meets its contract. The invariant: the first i names are put. Assumes nothing.
use Rattle.std.proofs.Common.{arith, ap, length}
use Rattle.text_sheet.proofs.Laws.{put_length, names_none, names_turn, names_within}
use Rattle.text_sheet.proofs.names.put_names.Goals as goal

pub loop-i-init : goal.loop-i-init
loop-i-init c = (omega arith, names_none _ _)

pub put_text-end-requires : goal.put_text-end-requires
put_text-end-requires c =
    omega (arith, c.requires, ap length c.name.ensures, c.loop-i.invariant.1.next, put_length c.loop-i.invariant.1, names_within c.args.names.now.lines c.loop-i.i (omega (arith, c.loop-i-test.true, c.len-i-end.ensures.lines)))

pub put_byte-end-requires : goal.put_byte-end-requires
put_byte-end-requires c =
    omega (arith, c.requires, ap length c.name.ensures, c.put_text-end.ensures.value, put_length c.put_text-end.ensures.put, c.loop-i.invariant.1.next, put_length c.loop-i.invariant.1, names_within c.args.names.now.lines c.loop-i.i (omega (arith, c.loop-i-test.true, c.len-i-end.ensures.lines)))

pub loop-i-preserved : goal.loop-i-preserved
loop-i-preserved c =
    (omega (arith, c.loop-i-test.true, c.len-i-end.ensures.lines), names_turn _ _ (omega (arith, c.loop-i-test.true, c.len-i-end.ensures.lines)) c.name.ensures c.loop-i.invariant.1 c.put_text-end.ensures.put c.put_byte-end.ensures.put)
