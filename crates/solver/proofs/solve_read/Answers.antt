-- `solver::solve_read` meets its contract, for any buffers. Assumes nothing.
use native.Mathlib.Omega.{arith}
use mathlib.Core.Path.{sym, ap, ◌∙◌}
use borrow.Author.Rules.{rules}
use Rattle.records.specs.declared.records.Options.{Options}
use Rattle.layout.proofs.Laws.{options_within}
use Rattle.answers.proofs.Laws.{enough}
use Rattle.solver.proofs.Laws.{network_of, few_trials, solve_short, solve_runs}
use Rattle.solver.proofs.solve_read.Goals as goal

pub options_of-options-requires : goal.options_of-options-requires
options_of-options-requires c = options_within _ _ (network_of _ _ c.requires.sheet_value).laid

pub too_short-requires : goal.too_short-requires
too_short-requires c = omega (arith, few_trials _ _ c.requires.sheet_value, ap (λ (o : Options). o.trials) c.options_of-options.ensures)

pub solved-requires-clause-sheet_value : goal.solved-requires-clause-sheet_value
solved-requires-clause-sheet_value c = c.requires.sheet_value

pub solved-requires-clause-trials_value : goal.solved-requires-clause-trials_value
solved-requires-clause-trials_value c = ap (λ (x : Options). x.trials) c.options_of-options.ensures

pub solved-requires-clause-enough : goal.solved-requires-clause-enough
solved-requires-clause-enough c = enough _ _ _ (sym c.too_short.ensures ∙ c.in-None.is)

pub returns-in-Some : goal.returns-in-Some
returns-in-Some c = solve_short _ _ _ _ _ _ (ap (λ (x : Options). x.trials) c.options_of-options.ensures) c.too_short.ensures _ _ c.in-Some.is c.refused.ensures

pub returns-in-None : goal.returns-in-None
returns-in-None c = solve_runs _ _ _ _ _ _ (ap (λ (x : Options). x.trials) c.options_of-options.ensures) c.too_short.ensures _ c.in-None.is c.solved.ensures
