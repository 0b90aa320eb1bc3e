-- `standard::put_verdict` writes the whole line. Assumes nothing.
use mathlib.Core.Path.{subst}
use native.Mathlib.Omega.{arith}
use Rattle.std.proofs.Common.{OnOk}
use Rattle.std.specs.Io.KnownBytes.{Appends}
use Rattle.standard.proofs.Lines.{put_first}
use Rattle.standard.proofs.put_verdict.Goals as goal

pub returns : goal.returns
returns g c =
    let line = c.verdict_line-n.ensures in
    subst (λ l. OnOk c.put.result (Appends (g.W.Write.contents c.args.writer.now) (g.W.Write.contents c.put.new.writer) l)) (put_first _ _ _ _ line.text line.end (omega (arith, line.few))) c.put.ensures
