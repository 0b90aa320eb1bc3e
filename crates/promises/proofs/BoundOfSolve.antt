-- Demand 3's bound of a solve, apart from the law of any run, so that a wrong law is refused where it stands. Assumes nothing.
use Rattle.layout.specs.declared.places.Layout.{Layout}
use Rattle.solver.specs.Solve.{trials_of}
use Rattle.solver.proofs.Laws.{network_of}
use Rattle.promises.specs.Trials.{start_point, run_in, point_in}
use Rattle.promises.specs.Statements.{SolveRepairsEnd}
use Rattle.promises.proofs.Bound.{repairs_end, start_room}

-- Of the solve of any sheet, wherever a run of failed trials begins.
pub solve_repairs_end : SolveRepairsEnd
unfolding run_in point_in start_point
solve_repairs_end s l e i = repairs_end s l (network_of s l e).unknowns i (trials_of s) (start_point s l) (start_room s l e)
