-- `row_sheet::put_number` meets its contract. Assumes nothing.
use native.Mathlib.Omega.{arith}
use Prim.Native.Nat.{◌+◌, ◌-◌, ◌≤◌}
use mathlib.Core.Path.{◌≡◌, refl}
use borrow.Author.Rules.{rules}
use lib.ListN.{length, length-set}
use Rattle.row_sheet.specs.RowSheet.{number_put}
use Rattle.row_sheet.proofs.Laws.{number_none, number_next, number_all}
use Rattle.row_sheet.proofs.put_number.Given as goal

abbrev pub invariant-loop-k : goal.invariant-loop-k
invariant-loop-k l = (length l.sheet ≡ length l.initial.sheet) × (l.k ≤ 8) × (number_put (8 - l.k) l.sheet (l.at + l.k) l.left ≡ number_put 8 l.initial.sheet l.at l.number)

abbrev pub decreases-loop-k : goal.decreases-loop-k
decreases-loop-k l = 8 - l.k
