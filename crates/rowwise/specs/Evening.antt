-- An evening of rows (document 02, [9]): each row's sheet solved, or solved and judged, in the row's room; and the refusals of the whole call. Definitions only.
use Rattle.std.specs.Prelude.{ℕ, zero, suc, ◌*◌, Bool, cond, ◌||◌, List, eqb, ltb, set, Float, Err, None, Ok, Option, Some}
use Rattle.layout.specs.declared.places.Layout.{Layout}
use Rattle.refusals.specs.Refusals.{number_of, place_of}
use Rattle.tolerance.specs.declared.Limits.{Limits}
use Rattle.sheet.specs.Read.{read_of, Reading}
use Rattle.entries.specs.Entries.{none}
use Rattle.answers.specs.Answers.{failed_of}
use Rattle.answers.specs.declared.Answer.{Answer}
use Rattle.solver.specs.Solve.{trials_of, solve_of}
use Rattle.sale.specs.Sale.{sale_of}
use Rattle.sale.specs.declared.judging.Verdict.{Verdict}
use Rattle.row_sheet.specs.RowSheet.{row_sheet}
use Rattle.rowwise.specs.declared.admitting.Called.{Called}
use Rattle.rowwise.specs.declared.admitting.Lengths.{Lengths}
use Rattle.rowwise.specs.Rooms.{Lends, lends, lent_of, lengths_of, room_of, room_put}

-- ---- one row

-- number, place, trials, freed and grounded, and where rows are judged the verdict's number and place
unfoldable pub width_of : Option Limits → ℕ
width_of None = 5
width_of (Some limits) = 7

unfoldable pub counts_put : Answer → List ℕ → List ℕ
counts_put a x = set (set (set (set (set x 0 a.number) 1 a.place) 2 a.trials) 3 a.freed) 4 a.grounded

unfoldable pub verdict_put : Verdict → List ℕ → List ℕ
verdict_put v x = set (set x 5 v.number) 6 v.place

unfoldable pub totals_put : Answer → List Float → List Float
totals_put a x = set (set (set x 0 a.demand) 1 a.supply) 2 a.error

-- the single solve of a sheet in a row's room
unfoldable pub row_of : Option Limits → List ℕ → Lends → Lends
unfolding counts_put verdict_put totals_put
row_of None s b =
    let o = solve_of s (lent_of b) in
    lends o.lent.heads o.lent.demands o.lent.flows o.lent.statuses o.lent.entries (counts_put o.answer b.counts) (totals_put o.answer b.totals) o.lent.scratch
row_of (Some limits) s b =
    let o = sale_of s limits (lent_of b) in
    lends o.lent.heads o.lent.demands o.lent.flows o.lent.statuses o.lent.entries (verdict_put o.verdict (counts_put o.answer b.counts)) (totals_put o.answer b.totals)
    o.lent.scratch

-- the counts of a row whose sheet is refused with 3 at a place: verdict 1 at 3 where rows are judged
unfoldable pub refused_counts : Option Limits → ℕ → List ℕ → List ℕ
unfolding counts_put verdict_put
refused_counts None place x = counts_put (failed_of 3 place none) x
refused_counts (Some limits) place x = verdict_put (record { number = 1; place = 3 }) (counts_put (failed_of 3 place none) x)

-- ---- the rows

-- row r: the sheet with the row's demands, in the row's room
unfoldable pub row_done : Option Limits → List ℕ → Layout → List Float → ℕ → Lends → Lends
unfolding row_of room_of room_put
row_done judging s l table r b =
    room_put l (trials_of s) (width_of judging) r
    (row_of judging (row_sheet s l table r) (room_of l (trials_of s) (width_of judging) r b)) b

-- the first rows, in order
unfoldable pub rows_done : Option Limits → List ℕ → Layout → List Float → ℕ → Lends → Lends
unfolding row_done
rows_done judging s l table zero b = b
rows_done judging s l table (suc r) b = row_done judging s l table r (rows_done judging s l table r b)

-- ---- the whole call

abbrev pub called : ℕ → ℕ → Called
called number place = record { number = number; place = place }

-- the table or a result buffer is too short for so many rows
unfoldable pub lacking : Layout → ℕ → ℕ → ℕ → Lengths → Bool
lacking l trials width rows n =
    ltb n.table (rows * l.nodes)
    || ltb n.heads (rows * l.nodes)
    || ltb n.demands (rows * l.nodes)
    || ltb n.flows (rows * l.links)
    || ltb n.statuses (rows * l.links)
    || ltb n.entries (rows * (4 * trials))
    || ltb n.counts (rows * width)
    || ltb n.totals (rows * 3)

-- 5 for the scratch alone, then 14; 0 at 0 where the call is not refused
unfoldable pub admitted_of : Layout → ℕ → ℕ → ℕ → Lengths → Called
unfolding lacking
admitted_of l trials width rows n =
    cond (ltb n.scratch 4096) (called 5 5)
    (cond (eqb rows 0) (called 14 0)
    (cond (ltb 32 rows) (called 14 1)
    (cond (lacking l trials width rows n) (called 14 2)
    (called 0 0))))

-- what a call tells, and what was lent after it
pub record Evening : Type 0 where
  pub called : Called
  pub lends : Lends

unfoldable pub after_admitted : Option Limits → List ℕ → Layout → ℕ → List Float → Lends → Called → Evening
unfolding rows_done
after_admitted judging s l rows table b c =
    record { called = c; lends = cond (eqb c.number 0) (rows_done judging s l table rows b) b }

unfoldable pub after_read : Option Limits → List ℕ → ℕ → List Float → Lends → Reading → Evening
unfolding after_admitted admitted_of
after_read judging s rows table b (Err r) = record { called = called (number_of r) (place_of r); lends = b }
after_read judging s rows table b (Ok l) =
    after_admitted judging s l rows table b (admitted_of l (trials_of s) (width_of judging) rows (lengths_of table b))

-- refusals 1 to 4 of the sheet as it stands, then 5 and 14, else every row
unfoldable pub evening_of : Option Limits → List ℕ → ℕ → List Float → Lends → Evening
unfolding after_read
evening_of judging s rows table b = after_read judging s rows table b (read_of s)
