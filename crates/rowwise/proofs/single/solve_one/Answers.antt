-- `rowwise::single::solve_one` meets its contract. Assumes nothing.
use borrow.Author.Rules.{rules}
use Rattle.rowwise.specs.Rooms.{lends}
use Rattle.rowwise.proofs.Laws.{row_refused, found_bad, found_none}
use Rattle.rowwise.proofs.single.solve_one.Goals as goal

pub solve_good-requires-clause-sheet_value : goal.solve_good-requires-clause-sheet_value
solve_good-requires-clause-sheet_value c = found_none _ _ _ c.requires.sheet_value c.in-None.is

pub solve_good-requires-clause-judging_in_bounds : goal.solve_good-requires-clause-judging_in_bounds
solve_good-requires-clause-judging_in_bounds c = c.requires.judging_in_bounds

pub returns-in-Some : goal.returns-in-Some
returns-in-Some c = row_refused c.args.judging c.args.sheet.now _ (lends c.args.heads.now c.args.demands.now c.args.flows.now c.args.statuses.now c.args.entries.now c.args.counts.now c.args.totals.now c.args.scratch.now) _ _ (found_bad _ _ _ _ c.requires.sheet_value c.in-Some.is) c.refuse_one.ensures.counts_after c.refuse_one.ensures.totals_after
