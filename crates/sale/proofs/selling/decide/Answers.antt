-- `sale::selling::decide` meets its contract. Assumes nothing.
use borrow.Author.Rules.{rules}
use borrow.Author.Tests.{eq-eqb, ne_eqb}
use Rattle.answers.specs.Answers.{lent}
use Rattle.solver.proofs.Laws.{network_of}
use Rattle.sale.proofs.Laws.{decide_unsold, decide_judged}
use Rattle.sale.proofs.selling.decide.Goals as goal

pub returns-then-answer-ne0 : goal.returns-then-answer-ne0
returns-then-answer-ne0 c = (λ scratch. decide_unsold c.args.sheet.now c.args.limits c.args.answer (lent c.args.heads.now c.args.demands.now c.args.flows.now c.args.statuses.now c.args.entries.now scratch) c.args.l _ (ne_eqb _ _ c.if-answer-ne0.true) c.unsold.ensures)

pub judge-requires-clause-network : goal.judge-requires-clause-network
judge-requires-clause-network c = network_of _ _ c.requires.sheet_value

pub judge-requires-clause-ample : goal.judge-requires-clause-ample
judge-requires-clause-ample c = c.requires.backed.room _ c.requires.sheet_value c.if-answer-ne0.false

pub returns : goal.returns
returns c = (λ scratch. decide_judged c.args.sheet.now c.args.limits c.args.answer (lent c.args.heads.now c.args.demands.now c.args.flows.now c.args.statuses.now c.args.entries.now scratch) c.args.l _ (eq-eqb _ _ c.if-answer-ne0.false) c.judge.ensures)
