-- `row_sheet::put_number` meets its contract. Assumes nothing.
use native.Mathlib.Omega.{arith}
use Prim.Native.Nat.{◌+◌, ◌-◌, ◌≤◌}
use mathlib.Core.Path.{◌≡◌, refl}
use borrow.Author.Rules.{rules}
use lib.ListN.{length, length-set}
use Rattle.row_sheet.specs.RowSheet.{number_put}
use Rattle.row_sheet.proofs.Laws.{number_none, number_next, number_all}
use Rattle.row_sheet.proofs.put_number.Goals as goal

pub loop-k-init : goal.loop-k-init
loop-k-init c = (refl, omega arith, number_none c.args.at c.args.number c.args.sheet.now)

pub loop-k-preserved : goal.loop-k-preserved
loop-k-preserved c = (simp length-set (omega arith), omega arith, number_next c.loop-k.k c.args.at c.loop-k.left c.loop-k.sheet _ (omega arith) c.loop-k.invariant.2)

pub shape_of-sheet : goal.shape_of-sheet
shape_of-sheet c = c.loop-k.invariant.0

pub returns : goal.returns
returns c = number_all c.loop-k.k c.args.at c.loop-k.left c.loop-k.sheet _ (omega arith) c.loop-k.invariant.2
