-- `sheet_bytes::put_number` meets its contract. The invariant: with the bytes that are left, the buffer has them all. Assumes nothing.
use native.Mathlib.Omega.{arith}
use Prim.Native.Nat.{◌+◌, ◌-◌, ◌≤◌}
use mathlib.Core.Path.{◌≡◌, refl}
use lib.ListN.{length, length-set}
use Rattle.words.specs.Buffer.{placed}
use Rattle.sheet_bytes.specs.Bytes.{number_bytes}
use Rattle.sheet_bytes.proofs.Laws.{number_none, number_next, number_all}
use Rattle.sheet_bytes.proofs.Lengths.{number_length}
use Rattle.sheet_bytes.proofs.put_number.Goals as goal

pub loop-i-init : goal.loop-i-init
loop-i-init c = (omega arith, refl, number_none _ _ _ _)

pub loop-i-preserved : goal.loop-i-preserved
loop-i-preserved c = (omega arith, simp length-set (omega arith), number_next c.args.count c.loop-i.left c.loop-i.out _ c.args.at c.loop-i.i (omega arith) c.loop-i.invariant.2)

pub shape_of-out : goal.shape_of-out
shape_of-out c = c.loop-i.invariant.1

pub returns-clause-put : goal.returns-clause-put
returns-clause-put c = record { bytes = number_all c.args.count c.loop-i.left c.loop-i.out _ c.args.at c.loop-i.i (omega arith) c.loop-i.invariant.2; next = omega (arith, number_length c.args.count c.args.number) }

pub returns-clause-value : goal.returns-clause-value
returns-clause-value c = refl
