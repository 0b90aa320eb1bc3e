-- `solver::solve` meets its contract, for any sheet and any buffers. Assumes nothing.
use mathlib.Core.Path.{sym, ◌∙◌}
use borrow.Author.Rules.{rules}
use Rattle.solver.proofs.Laws.{solve_refused, solve_good}
use Rattle.solver.proofs.solve.Goals as goal

pub solve_read-requires : goal.solve_read-requires
solve_read-requires c = record { sheet_value = sym c.read.ensures ∙ c.in-Ok.is }

pub returns-in-Err : goal.returns-in-Err
returns-in-Err c = solve_refused _ _ _ _ c.read.ensures _ _ c.in-Err.is c.refuse.ensures

pub returns-in-Ok : goal.returns-in-Ok
returns-in-Ok c = solve_good _ _ _ _ c.read.ensures _ _ c.in-Ok.is c.solve_read.ensures
