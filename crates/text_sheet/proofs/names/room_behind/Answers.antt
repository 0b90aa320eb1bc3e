-- `text_sheet::names::room_behind` meets its contract. The invariant: what is left and the first i names make the room. Assumes nothing.
use Rattle.std.proofs.Common.{arith, ap, ◌<◌, length, take_all, List}
use Rattle.std.proofs.Math.Nat.{lt_of_not-le}
use Rattle.named_lines.specs.Named.{Named}
use Rattle.text_sheet.specs.Sheet.{names_bytes}
use Rattle.text_sheet.proofs.Laws.{names_nothing, names_more, names_within, no_room, all_room}
use Rattle.text_sheet.proofs.names.room_behind.Goals as goal

pub loop-i-init : goal.loop-i-init
loop-i-init c = (omega arith, omega (arith, names_nothing))

pub returns-in_err-left : goal.returns-in_err-left
returns-in_err-left c =
    rw c.from_residual.ensures (no_room _ _ (omega (arith, lt_of_not-le c.in_err-left.ensures, ap length c.name.ensures, c.loop-i.invariant.1, names_within c.args.names.now.lines c.loop-i.i (omega (arith, c.loop-i-test.true, c.len-i-end.ensures.lines)))))

pub loop-i-preserved : goal.loop-i-preserved
loop-i-preserved c =
    let h : c.loop-i.i < length c.args.names.now.lines = omega (arith, c.loop-i-test.true, c.len-i-end.ensures.lines) in
    (omega (arith, h), omega (arith, c.in_ok-left.ensures, ap length c.name.ensures, c.loop-i.invariant.1, names_more c.args.names.now.lines c.loop-i.i h))

pub returns : goal.returns
returns c =
    all_room _ _ _ (omega (arith, c.loop-i.invariant.1, ap (λ (l : List Named). length (names_bytes l)) (take_all c.loop-i.i c.args.names.now.lines (omega (arith, c.loop-i-test.false, c.len-i-end.ensures.lines)))))
