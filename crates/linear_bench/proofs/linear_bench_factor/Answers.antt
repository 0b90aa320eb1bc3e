-- `linear_bench::linear_bench_factor` meets its contract. Assumes nothing.
use borrow.Author.Rules.{rules}
use mathlib.Core.Path.{sym, ap, ◌∙◌}
use Rattle.linear_bench.specs.Passed.{passed}
use Rattle.linear_bench.proofs.linear_bench_factor.Goals as goal

pub returns-in-Ok-clause-matrix : goal.returns-in-Ok-clause-matrix
returns-in-Ok-clause-matrix c = c.factor.ensures.matrix

pub returns-in-Ok-clause-answer : goal.returns-in-Ok-clause-answer
returns-in-Ok-clause-answer c = ap (passed c.args.n) (sym c.in-Ok.is ∙ c.factor.ensures.answer)

pub returns-in-Err-clause-matrix : goal.returns-in-Err-clause-matrix
returns-in-Err-clause-matrix c = c.factor.ensures.matrix

pub returns-in-Err-clause-answer : goal.returns-in-Err-clause-answer
returns-in-Err-clause-answer c = ap (passed c.args.n) (sym c.in-Err.is ∙ c.factor.ensures.answer)
