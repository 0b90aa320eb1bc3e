-- `sheet::scan::count_records` meets its contract: what is counted and what is left to count are the whole run. Assumes nothing.
use mathlib.Core.List.{List}
use mathlib.Core.Path.{◌≡◌, sym, ap, ◌∙◌}
use Prim.Native.Nat.{ℕ, ◌+◌, ◌-◌, ◌≤◌}
use mathlib.Core.Bool.{true}
use native.Mathlib.Omega.{arith}
use lib.ListN.{length}
use Rattle.sheet.specs.Scan.{readable, records_from}
use Rattle.sheet.proofs.Laws.{fits, run_turn, run_end}
use Rattle.sheet.proofs.scan.count_records.Given as goal

pub record Counted (sheet : List ℕ) (from first second size at n : ℕ) : Type 0 where
  pub inside : at ≤ length sheet
  pub passed : n + from ≤ at
  pub total : n + records_from first second size (length sheet - n) sheet at ≡ records_from first second size (length sheet) sheet from

abbrev pub invariant-loop-at : goal.invariant-loop-at
invariant-loop-at l = Counted l.sheet l.from l.first l.second l.size l.at l.n

abbrev pub decreases-loop-at : goal.decreases-loop-at
decreases-loop-at l = length l.sheet - l.at
