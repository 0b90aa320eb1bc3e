-- `sheet_bytes::put_text` meets its contract. The invariant: with the bytes that are left, the buffer has them all. Assumes nothing.
use native.Mathlib.Omega.{arith}
use Prim.Native.Nat.{◌+◌, ◌-◌, ◌≤◌}
use mathlib.Core.Path.{◌≡◌, refl}
use lib.ListN.{length, drop, length-set}
use Rattle.words.specs.Buffer.{placed}
use Rattle.sheet_bytes.proofs.Laws.{text_none, text_next, text_all}
use Rattle.sheet_bytes.proofs.put_text.Goals as goal

pub loop-i-init : goal.loop-i-init
loop-i-init c = (omega arith, refl, text_none _ _ _)

pub loop-i-preserved : goal.loop-i-preserved
loop-i-preserved c = (omega arith, simp length-set (omega arith), text_next c.args.text.now c.loop-i.out _ c.args.at c.loop-i.i (omega arith) c.loop-i.invariant.2)

pub shape_of-out : goal.shape_of-out
shape_of-out c = c.loop-i.invariant.1

pub returns-clause-put : goal.returns-clause-put
returns-clause-put c = record { bytes = text_all c.args.text.now c.loop-i.out _ c.args.at c.loop-i.i (omega arith) c.loop-i.invariant.2; next = refl }

pub returns-clause-value : goal.returns-clause-value
returns-clause-value c = refl
