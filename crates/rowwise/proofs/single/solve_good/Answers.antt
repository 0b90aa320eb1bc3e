-- `rowwise::single::solve_good` meets its contract. Assumes nothing.
use borrow.Author.Rules.{rules}
use native.Mathlib.Omega.{arith}
use Rattle.sale.proofs.Laws.{solved_as}
use Rattle.rowwise.specs.Rooms.{lends}
use Rattle.rowwise.proofs.Laws.{wide, wide_by, row_off, row_by}
use Rattle.rowwise.proofs.single.solve_good.Goals as goal

pub put_counts-requires : goal.put_counts-requires
put_counts-requires c = omega (arith, c.requires.judging_in_bounds.0, wide c.args.judging)

pub put_totals-requires : goal.put_totals-requires
put_totals-requires c = c.requires.judging_in_bounds.1

pub put_counts-requires-in-Some : goal.put_counts-requires-in-Some
put_counts-requires-in-Some c = omega (arith, c.requires.judging_in_bounds.0, wide c.args.judging)

pub put_totals-requires-in-Some : goal.put_totals-requires-in-Some
put_totals-requires-in-Some c = c.requires.judging_in_bounds.1

pub put_verdict-requires : goal.put_verdict-requires
put_verdict-requires c = omega (arith, c.requires.judging_in_bounds.0, c.put_counts-in-Some.auto.counts, wide_by c.args.judging _ c.in-Some.is)

pub returns-in-None : goal.returns-in-None
returns-in-None c = row_off c.args.judging c.args.sheet.now (lends c.args.heads.now c.args.demands.now c.args.flows.now c.args.statuses.now c.args.entries.now c.args.counts.now c.args.totals.now c.args.scratch.now) _ _ _ c.in-None.is (solved_as c.args.sheet.now c.args.l _ _ c.requires.sheet_value c.solve_read-a.ensures) c.put_counts.ensures c.put_totals.ensures

pub returns-in-Some : goal.returns-in-Some
returns-in-Some c = row_by c.args.judging c.args.sheet.now _ (lends c.args.heads.now c.args.demands.now c.args.flows.now c.args.statuses.now c.args.entries.now c.args.counts.now c.args.totals.now c.args.scratch.now) _ _ _ _ c.in-Some.is c.sell_read-s.ensures c.put_counts-in-Some.ensures c.put_totals-in-Some.ensures c.put_verdict.ensures
