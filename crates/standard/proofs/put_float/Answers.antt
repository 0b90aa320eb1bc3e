-- `standard::put_float` writes the digits alone. Assumes nothing.
use mathlib.Core.Path.{subst}
use native.Mathlib.Omega.{arith}
use Rattle.std.proofs.Common.{OnOk}
use Rattle.std.specs.Io.KnownBytes.{Appends}
use Rattle.standard.proofs.Lines.{put_digits}
use Rattle.standard.proofs.put_float.Goals as goal

pub returns : goal.returns
returns g c = subst (λ l. OnOk c.put.result (Appends (g.W.Write.contents c.args.writer.now) (g.W.Write.contents c.put.new.writer) l)) (put_digits _ _ c.args.x c.put_float.ensures.put.bytes (omega arith)) c.put.ensures
