-- `stepping::take` meets its contract, for any sheet, any state and any buffers. Assumes nothing.
use native.Mathlib.Omega.{arith}
use mathlib.Core.Path.{◌≡◌, sym, ap, ◌∙◌}
use borrow.Author.Rules.{rules}
use Rattle.records.specs.declared.records.Options.{Options}
use Rattle.layout.proofs.Laws.{options_within}
use Rattle.trial.specs.Trial.{repair_of}
use Rattle.answers.specs.Answers.{lent}
use Rattle.answers.proofs.Laws.{enough}
use Rattle.held.specs.Held.{held}
use Rattle.solver.proofs.Laws.{network_of, few_trials}
use Rattle.stepping.proofs.Laws.{take_again, take-refused, take_short, take_runs}
use Rattle.stepping.proofs.take.Goals as goal

pub returns-then-n-ne0 : goal.returns-then-n-ne0
returns-then-n-ne0 c = take_again repair_of c.args.sheet.now (held c.args.h.now c.args.d.now c.args.f.now c.args.q.now c.args.c.now c.args.z.now c.args.sums.now c.args.counts.now) (lent c.args.heads.now c.args.demands.now c.args.flows.now c.args.statuses.now c.args.entries.now c.args.scratch.now) _ c.if-n-ne0.true c.answer_in.ensures

pub options_of-options-requires : goal.options_of-options-requires
options_of-options-requires c =
    let net = network_of _ _ (sym c.read.ensures ∙ c.in-Ok.is) in
    options_within _ _ net.laid

pub too_short-requires : goal.too_short-requires
too_short-requires c = omega (arith, few_trials _ _ (sym c.read.ensures ∙ c.in-Ok.is), ap (λ (o : Options). o.trials) c.options_of-options.ensures)

pub returns-in-Err : goal.returns-in-Err
returns-in-Err c =
    take-refused repair_of c.args.sheet.now (held c.args.h.now c.args.d.now c.args.f.now c.args.q.now c.args.c.now c.args.z.now c.args.sums.now c.args.counts.now) (lent c.args.heads.now c.args.demands.now c.args.flows.now c.args.statuses.now c.args.entries.now c.args.scratch.now) _ c.if-n-ne0.false c.read.ensures
    _ _ _ _ c.in-Err.is c.refusal_number.ensures c.refusal_place.ensures c.refused.ensures

pub take_one-requires-clause-sheet_value : goal.take_one-requires-clause-sheet_value
take_one-requires-clause-sheet_value c = sym c.read.ensures ∙ c.in-Ok.is

pub take_one-requires-clause-trials_value : goal.take_one-requires-clause-trials_value
take_one-requires-clause-trials_value c = ap (λ (o : Options). o.trials) c.options_of-options.ensures

pub take_one-requires-clause-enough : goal.take_one-requires-clause-enough
take_one-requires-clause-enough c = enough _ _ _ (sym c.too_short.ensures ∙ c.in-None.is)

pub returns-in-Some : goal.returns-in-Some
returns-in-Some c =
    take_short repair_of c.args.sheet.now (held c.args.h.now c.args.d.now c.args.f.now c.args.q.now c.args.c.now c.args.z.now c.args.sums.now c.args.counts.now) (lent c.args.heads.now c.args.demands.now c.args.flows.now c.args.statuses.now c.args.entries.now c.args.scratch.now) _ c.if-n-ne0.false c.read.ensures
    _ _ _ c.in-Ok.is (ap (λ (o : Options). o.trials) c.options_of-options.ensures) c.too_short.ensures _ _ c.in-Some.is c.refused-in-Some.ensures

pub returns-in-None : goal.returns-in-None
returns-in-None c =
    take_runs repair_of c.args.sheet.now (held c.args.h.now c.args.d.now c.args.f.now c.args.q.now c.args.c.now c.args.z.now c.args.sums.now c.args.counts.now) (lent c.args.heads.now c.args.demands.now c.args.flows.now c.args.statuses.now c.args.entries.now c.args.scratch.now) _ c.if-n-ne0.false c.read.ensures
    _ _ _ c.in-Ok.is (ap (λ (o : Options). o.trials) c.options_of-options.ensures) c.too_short.ensures _ c.in-None.is c.take_one.ensures
