-- `rowwise::whole::solve_evening` meets its contract, for any sheet, any rows and any buffers. Assumes nothing.
use native.Mathlib.Omega.{arith}
use borrow.Author.Rules.{rules}
use borrow.Author.Tests.{eq-eqb, ne_eqb}
use Prim.Native.Nat.{ℕ, ◌≤◌}
use mathlib.Core.List.{List}
use lib.ListN.{length, replicate, length-replicate}
use mathlib.Core.Path.{◌≡◌, sym, ap, ◌∙◌}
use lib.Seq.{length-take-le}
use Rattle.layout.proofs.Laws.{options_within}
use Rattle.records.specs.declared.records.Options.{Options}
use Rattle.solver.proofs.Laws.{network_of, few_trials}
use Rattle.rowwise.specs.Rooms.{Lends, lends}
use Rattle.rowwise.proofs.Laws.{few_counts, few_bytes, fits_admitted, evening_refused, evening-not, evening-done}
use Rattle.rowwise.proofs.whole.solve_evening.Goals as goal

within-copy : (s : List ℕ) → length s ≤ 9199 → length s ≤ length {A = ℕ} (replicate 9199 0)
within-copy s h = omega (arith, length-replicate {A = ℕ} 9199 0)

pub options_of-options-requires : goal.options_of-options-requires
options_of-options-requires c =
    let w = network_of _ _ (sym c.read.ensures ∙ c.in-Ok.is) in
    options_within _ _ w.laid

pub admitted-called-requires : goal.admitted-called-requires
admitted-called-requires c =
    let good = sym c.read.ensures ∙ c.in-Ok.is in
    let net = network_of _ _ good in
    (omega (arith, few_trials _ _ good, ap (λ (x : Options). x.trials) c.options_of-options.ensures), omega (arith, c.width.ensures, few_counts c.args.judging), net.nodes, net.links)

pub returns-then-called-ne0 : goal.returns-then-called-ne0
returns-then-called-ne0 c =
    let lent_of : Lends = lends c.args.heads.now c.args.demands.now c.args.flows.now c.args.statuses.now c.args.entries.now c.args.counts.now c.args.totals.now c.args.scratch.now in
    evening-not c.args.judging c.args.sheet.now c.args.rows c.args.table.now lent_of _ c.read.ensures _ _ _ _ c.in-Ok.is (ap (λ (x : Options). x.trials) c.options_of-options.ensures) c.width.ensures c.admitted-called.ensures (ne_eqb _ _ c.if-called-ne0.true)

pub slice_bounds-copy-end : goal.slice_bounds-copy-end
slice_bounds-copy-end c = few_bytes _ _ (sym c.read.ensures ∙ c.in-Ok.is)

pub slice_bounds-solve_rows-end : goal.slice_bounds-solve_rows-end
slice_bounds-solve_rows-end c = sym (length-take-le (length c.args.sheet.now) (replicate 9199 0) (within-copy c.args.sheet.now (few_bytes _ _ (sym c.read.ensures ∙ c.in-Ok.is))))

pub solve_rows-requires-clause-sheet_value : goal.solve_rows-requires-clause-sheet_value
solve_rows-requires-clause-sheet_value c =
    let good = sym c.read.ensures ∙ c.in-Ok.is in
    good

pub solve_rows-requires-clause-trials_value : goal.solve_rows-requires-clause-trials_value
solve_rows-requires-clause-trials_value c =
    let good = sym c.read.ensures ∙ c.in-Ok.is in
    ap (λ (x : Options). x.trials) c.options_of-options.ensures

pub solve_rows-requires-clause-copy_len : goal.solve_rows-requires-clause-copy_len
solve_rows-requires-clause-copy_len c =
    let good = sym c.read.ensures ∙ c.in-Ok.is in
    length-take-le (length c.args.sheet.now) (replicate 9199 0) (within-copy c.args.sheet.now (few_bytes _ _ good))

pub solve_rows-requires-clause-fits : goal.solve_rows-requires-clause-fits
solve_rows-requires-clause-fits c =
    let good = sym c.read.ensures ∙ c.in-Ok.is in
    fits_admitted c.args.judging _ _ _ c.args.rows _ _ c.width.ensures c.admitted-called.ensures c.if-called-ne0.false

pub returns-in-Err : goal.returns-in-Err
returns-in-Err c =
    let lent_of : Lends = lends c.args.heads.now c.args.demands.now c.args.flows.now c.args.statuses.now c.args.entries.now c.args.counts.now c.args.totals.now c.args.scratch.now in
    evening_refused c.args.judging c.args.sheet.now c.args.rows c.args.table.now lent_of _ c.read.ensures _ _ _ c.in-Err.is c.refusal_number.ensures c.refusal_place.ensures

pub shape_of-heads : goal.shape_of-heads
shape_of-heads c = c.solve_rows.auto.heads

pub shape_of-demands : goal.shape_of-demands
shape_of-demands c = c.solve_rows.auto.demands

pub shape_of-flows : goal.shape_of-flows
shape_of-flows c = c.solve_rows.auto.flows

pub shape_of-statuses : goal.shape_of-statuses
shape_of-statuses c = c.solve_rows.auto.statuses

pub shape_of-entries : goal.shape_of-entries
shape_of-entries c = c.solve_rows.auto.entries

pub shape_of-counts : goal.shape_of-counts
shape_of-counts c = c.solve_rows.auto.counts

pub shape_of-totals : goal.shape_of-totals
shape_of-totals c = c.solve_rows.auto.totals

pub shape_of-scratch : goal.shape_of-scratch
shape_of-scratch c = c.solve_rows.auto.scratch

pub returns-else-called-ne0 : goal.returns-else-called-ne0
returns-else-called-ne0 c =
    let lent_of : Lends = lends c.args.heads.now c.args.demands.now c.args.flows.now c.args.statuses.now c.args.entries.now c.args.counts.now c.args.totals.now c.args.scratch.now in
    evening-done c.args.judging c.args.sheet.now c.args.rows c.args.table.now lent_of _ c.read.ensures _ _ _ _ c.in-Ok.is (ap (λ (x : Options). x.trials) c.options_of-options.ensures) c.width.ensures c.admitted-called.ensures _ (eq-eqb _ _ c.if-called-ne0.false) c.solve_rows.ensures
