-- Demand 3 bettered: of any solve, no run of consecutive failed trials exceeds V + U. Statements only.
use Rattle.std.specs.Prelude.{ℕ, ◌+◌, ◌≤◌, ◌<◌, ◌≡◌, true, List, drop, Ok}
use Rattle.layout.specs.declared.places.Layout.{Layout}
use Rattle.nodes.specs.Nodes.{serving}
use Rattle.sheet.specs.Read.{read_of}
use Rattle.answers.specs.Answers.{Lent}
use Rattle.solver.specs.Solve.{solve_of}
use Rattle.promises.specs.Trials.{run_in, point_in}
use Rattle.promises.specs.Bound.{failing, fails_at, active}
use Rattle.promises.specs.Solves.{Runs}

-- with U junctions in service and V regulators Active before trial i, no more than V + U trials fail one after the other from it on
abbrev pub SolveRepairsBound : Type 0
SolveRepairsBound = (s : List ℕ) (l : Layout) → read_of s ≡ Ok l → (i : ℕ) → failing (drop i (run_in s l).entries) ≤ active s l (point_in s l i).state + serving s l l.nodes

-- the same by the bytes of the record: no more than V + U entries with the letters VF, GN or SG stand one behind the other from the ith on
abbrev pub RepairsBoundShown : Type 0
RepairsBoundShown =
    (s : List ℕ) (b : Lent) (l : Layout) → Runs s b l → (i n : ℕ) → i + n ≤ (solve_of s b).answer.trials → ((j : ℕ) → j < n → fails_at (solve_of s b).lent.entries (i + j) ≡ true)
    → n ≤ active s l (point_in s l i).state + serving s l l.nodes
