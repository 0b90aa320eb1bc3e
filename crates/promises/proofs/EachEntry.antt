-- Each entry of a solve, apart from the law of any run, so that a wrong law is refused where it stands. Assumes nothing.
use Rattle.solver.specs.Solve.{trials_of}
use Rattle.promises.specs.Trials.{start_point, run_in, point_in}
use Rattle.promises.specs.Statements.{SolveEachEntry}
use Rattle.promises.proofs.Trials.{each_entry}

-- Of the solve of any sheet: each entry is that of a trial of the state before it.
pub solve_each_entry : SolveEachEntry
unfolding run_in point_in
solve_each_entry s l i h = each_entry s l (trials_of s) i (start_point s l) h
