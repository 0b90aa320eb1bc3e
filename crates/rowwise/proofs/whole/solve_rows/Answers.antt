-- `rowwise::whole::solve_rows` meets its contract: one law a row. Assumes nothing.
use borrow.Author.Rules.{rules}
use native.Mathlib.Omega.{arith}
use Prim.Native.Nat.{◌-◌, ◌≤◌}
use mathlib.Core.Path.{◌≡◌, refl, ap, ◌∙◌}
use lib.ListN.{length}
use Rattle.rowwise.specs.declared.admitting.Lengths.{Lengths}
use Rattle.rowwise.specs.Rooms.{lends, lengths_of}
use Rattle.rowwise.specs.Evening.{width_of, rows_done}
use Rattle.rowwise.proofs.Laws.{rows_none, rows_next, rows_all, same_lengths, fits_kept}
use Rattle.rowwise.proofs.whole.solve_rows.Goals as goal

pub loop-r-init : goal.loop-r-init
loop-r-init c = (omega arith, refl, refl, rows_none _ _ _ _ _)

pub solve_row-requires-clause-sheet_value : goal.solve_row-requires-clause-sheet_value
solve_row-requires-clause-sheet_value c = c.requires.sheet_value

pub solve_row-requires-clause-trials_value : goal.solve_row-requires-clause-trials_value
solve_row-requires-clause-trials_value c = c.requires.trials_value

pub solve_row-requires-clause-copy_len : goal.solve_row-requires-clause-copy_len
solve_row-requires-clause-copy_len c = c.loop-r.invariant.1 ∙ c.requires.copy_len

pub solve_row-requires-clause-fits : goal.solve_row-requires-clause-fits
solve_row-requires-clause-fits c = fits_kept c.args.l c.args.trials (width_of c.args.judging) c.args.rows c.loop-r.r _ _ c.loop-r.invariant.2 c.loop-r-test.true c.requires.fits

pub overflow_step-r : goal.overflow_step-r
overflow_step-r c = omega (arith, c.loop-r-test.true, c.requires.fits.few)

pub loop-r-smaller : goal.loop-r-smaller
loop-r-smaller c = omega (arith, c.loop-r-test.true)

pub loop-r-preserved : goal.loop-r-preserved
loop-r-preserved c =
    let b = lends c.loop-r.heads c.loop-r.demands c.loop-r.flows c.loop-r.statuses c.loop-r.entries c.loop-r.counts c.loop-r.totals c.loop-r.scratch in
    let b' = lends c.solve_row.new.heads c.solve_row.new.demands c.solve_row.new.flows c.solve_row.new.statuses c.solve_row.new.entries c.solve_row.new.counts c.solve_row.new.totals c.solve_row.new.scratch in (
      omega (arith, c.loop-r-test.true),
      c.solve_row.auto.copy ∙ c.loop-r.invariant.1,
      same_lengths c.args.table.now b b' c.solve_row.auto.heads c.solve_row.auto.demands c.solve_row.auto.flows c.solve_row.auto.statuses c.solve_row.auto.entries c.solve_row.auto.counts c.solve_row.auto.totals c.solve_row.auto.scratch ∙ c.loop-r.invariant.2,
      rows_next c.args.judging c.args.sheet.now c.args.l c.args.table.now c.loop-r.r _ b b' c.loop-r.invariant.3 c.solve_row.ensures,
    )

pub shape_of-heads : goal.shape_of-heads
shape_of-heads c = ap (λ (n : Lengths). n.heads) c.loop-r.invariant.2

pub shape_of-demands : goal.shape_of-demands
shape_of-demands c = ap (λ (n : Lengths). n.demands) c.loop-r.invariant.2

pub shape_of-flows : goal.shape_of-flows
shape_of-flows c = ap (λ (n : Lengths). n.flows) c.loop-r.invariant.2

pub shape_of-statuses : goal.shape_of-statuses
shape_of-statuses c = ap (λ (n : Lengths). n.statuses) c.loop-r.invariant.2

pub shape_of-entries : goal.shape_of-entries
shape_of-entries c = ap (λ (n : Lengths). n.entries) c.loop-r.invariant.2

pub shape_of-counts : goal.shape_of-counts
shape_of-counts c = ap (λ (n : Lengths). n.counts) c.loop-r.invariant.2

pub shape_of-totals : goal.shape_of-totals
shape_of-totals c = ap (λ (n : Lengths). n.totals) c.loop-r.invariant.2

pub shape_of-scratch : goal.shape_of-scratch
shape_of-scratch c = ap (λ (n : Lengths). n.scratch) c.loop-r.invariant.2

pub shape_of-copy : goal.shape_of-copy
shape_of-copy c = c.loop-r.invariant.1

pub returns : goal.returns
returns c = rows_all c.args.judging c.args.sheet.now c.args.l c.args.table.now c.loop-r.r c.args.rows _ _ (omega (arith, c.loop-r-test.false, c.loop-r.invariant.0)) c.loop-r.invariant.3
