-- `standard::put_refusal` writes the whole line. Assumes nothing.
use mathlib.Core.Path.{sym, subst}
use native.Mathlib.Omega.{arith}
use lib.Seq.{length-take-le}
use Rattle.std.proofs.Common.{OnOk}
use Rattle.std.specs.Io.KnownBytes.{Appends}
use Rattle.standard.proofs.Lines.{put_first, line_few}
use Rattle.standard.proofs.put_refusal.Goals as goal

pub slice_bounds-out-end : goal.slice_bounds-out-end
slice_bounds-out-end g c = omega (arith, c.answer_line-n.auto.out, line_few _ _ _ _ _ _ c.answer_line-n.ensures.end)

pub slice_bounds-put-end : goal.slice_bounds-put-end
slice_bounds-put-end g c = sym (length-take-le c.answer_line-n.result c.answer_line-n.new.out (omega (arith, c.answer_line-n.auto.out, line_few _ _ _ _ _ _ c.answer_line-n.ensures.end)))

pub returns : goal.returns
returns g c =
    let line = c.answer_line-n.ensures in
    subst (λ l. OnOk c.put.result (Appends (g.W.Write.contents c.args.writer.now) (g.W.Write.contents c.put.new.writer) l)) (put_first _ _ _ _ line.text line.end (line_few _ _ _ _ _ _ line.end)) c.put.ensures
