-- `row_sheet::put_row` meets its contract. Assumes nothing.
use native.Mathlib.Omega.{arith}
use Prim.Native.Nat.{◌*◌, ◌-◌, ◌≤◌}
use native.Mathlib.Nat.{mul-le-mul}
use mathlib.Core.Path.{◌≡◌, ap, ◌∙◌}
use borrow.Author.Rules.{rules}
use lib.ListN.{length}
use Rattle.layout.proofs.Laws.{node_within}
use Rattle.row_sheet.specs.RowSheet.{demands_put}
use Rattle.row_sheet.proofs.Laws.{demands_long, demands_none, demands_next, demands_all}
use Rattle.row_sheet.proofs.put_row.Given as goal

abbrev pub invariant-loop-i : goal.invariant-loop-i
invariant-loop-i l = (l.i ≤ l.l.nodes) × (l.sheet ≡ demands_put l.i l.initial.sheet l.l l.table l.r)

abbrev pub decreases-loop-i : goal.decreases-loop-i
decreases-loop-i l = l.l.nodes - l.i
