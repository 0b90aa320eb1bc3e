-- `sale::selling::sell_read` meets its contract, for any limits and any buffers. Assumes nothing.
use mathlib.Core.Path.{ap}
use borrow.Author.Rules.{rules}
use Rattle.answers.specs.Answers.{Solved, lent}
use Rattle.sale.proofs.Laws.{backed, solved_as, sale_of_lem}
use Rattle.sale.proofs.selling.sell_read.Goals as goal

pub decide-verdict-requires-clause-sheet_value : goal.decide-verdict-requires-clause-sheet_value
decide-verdict-requires-clause-sheet_value c =
    let e = solved_as c.args.sheet.now c.args.l (lent c.args.heads.now c.args.demands.now c.args.flows.now c.args.statuses.now c.args.entries.now c.args.scratch.now) _ c.requires.sheet_value c.solve_read-answer.ensures in
    c.requires.sheet_value

pub decide-verdict-requires-clause-backed : goal.decide-verdict-requires-clause-backed
decide-verdict-requires-clause-backed c =
    let e = solved_as c.args.sheet.now c.args.l (lent c.args.heads.now c.args.demands.now c.args.flows.now c.args.statuses.now c.args.entries.now c.args.scratch.now) _ c.requires.sheet_value c.solve_read-answer.ensures in
    backed c.args.sheet.now (lent c.args.heads.now c.args.demands.now c.args.flows.now c.args.statuses.now c.args.entries.now c.args.scratch.now) _ _ _ _ _ _ (ap (λ (o : Solved). o.answer) e) c.solve_read-answer.auto.heads c.solve_read-answer.auto.demands c.solve_read-answer.auto.flows c.solve_read-answer.auto.statuses c.solve_read-answer.auto.entries

pub returns : goal.returns
returns c =
    let e = solved_as c.args.sheet.now c.args.l (lent c.args.heads.now c.args.demands.now c.args.flows.now c.args.statuses.now c.args.entries.now c.args.scratch.now) _ c.requires.sheet_value c.solve_read-answer.ensures in
    sale_of_lem _ c.args.l _ _ _ _ _ c.requires.sheet_value e (c.decide-verdict.ensures c.solve_read-answer.new.scratch)
