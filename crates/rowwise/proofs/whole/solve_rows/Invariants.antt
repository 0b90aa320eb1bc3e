-- `rowwise::whole::solve_rows` meets its contract: one law a row. Assumes nothing.
use borrow.Author.Rules.{rules}
use native.Mathlib.Omega.{arith}
use Prim.Native.Nat.{◌-◌, ◌≤◌}
use mathlib.Core.Path.{◌≡◌, refl, ap, ◌∙◌}
use lib.ListN.{length}
use Rattle.rowwise.specs.declared.admitting.Lengths.{Lengths}
use Rattle.rowwise.specs.Rooms.{lends, lengths_of}
use Rattle.rowwise.specs.Evening.{width_of, rows_done}
use Rattle.rowwise.proofs.Laws.{rows_none, rows_next, rows_all, same_lengths, fits_kept}
use Rattle.rowwise.proofs.whole.solve_rows.Given as goal

abbrev pub invariant-loop-r : goal.invariant-loop-r
invariant-loop-r l =
    (l.r ≤ l.rows)
    × (length l.copy ≡ length l.initial.copy)
    × (lengths_of l.table (lends l.heads l.demands l.flows l.statuses l.entries l.counts l.totals l.scratch) ≡ lengths_of l.table (lends l.initial.heads l.initial.demands l.initial.flows l.initial.statuses l.initial.entries l.initial.counts l.initial.totals l.initial.scratch))
    × (lends l.heads l.demands l.flows l.statuses l.entries l.counts l.totals l.scratch ≡ rows_done l.judging l.sheet l.l l.table l.r (lends l.initial.heads l.initial.demands l.initial.flows l.initial.statuses l.initial.entries l.initial.counts l.initial.totals l.initial.scratch))

abbrev pub decreases-loop-r : goal.decreases-loop-r
decreases-loop-r l =
    l.rows - l.r
