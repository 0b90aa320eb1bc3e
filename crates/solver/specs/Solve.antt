-- The whole solve: from a sheet and six lent buffers to an answer and the buffers after it. Definitions only.
use Rattle.std.specs.Prelude.{ℕ, List, length, Err, None, Ok, Option, Some}
use Rattle.records.specs.Records.{options_of}
use Rattle.refusals.specs.Refusals.{number_of, place_of}
use Rattle.sheet.specs.Read.{read_of, Reading}
use Rattle.layout.specs.declared.places.Layout.{Layout}
use Rattle.trial.specs.Trial.{Repair, repair_of}
use Rattle.entries.specs.Entries.{damping_start, none}
use Rattle.runs.specs.Run.{run_with, Finished, finish}
use Rattle.answers.specs.Answers.{Lent, Solved, too_short, refused_of}
use Rattle.conclusion.specs.Conclusion.{told}
unfoldable pub use Rattle.starts.specs.Start.{start_of}

-- how many trials the sheet allows
abbrev pub trials_of : List ℕ → ℕ
trials_of s = (options_of s).trials

-- the run of a sheet, over a record
unfoldable pub run_of : Repair → List ℕ → Layout → List ℕ → Finished
unfolding start_of
run_of repair s l bytes = finish 0 none bytes (run_with repair s l (trials_of s) damping_start (start_of s l))

-- the solve of a sheet that was read, with buffers b that are long enough
unfoldable pub solved_with : Repair → List ℕ → Layout → Lent → Solved
unfolding run_of told
solved_with repair s l b =
    let f = run_of repair s l b.entries in
    told s l (trials_of s) b f.state f.ran.tally f.bytes f.ran.ended

unfoldable pub after_short : Repair → List ℕ → Layout → Lent → Option ℕ → Solved
unfolding solved_with refused_of
after_short repair s l b (Some place) = refused_of 5 place b
after_short repair s l b None = solved_with repair s l b

unfoldable pub after_read : Repair → List ℕ → Lent → Reading → Solved
unfolding after_short refused_of too_short
after_read repair s b (Err r) = refused_of (number_of r) (place_of r) b
after_read repair s b (Ok l) =
    after_short repair s l b
    (too_short l (trials_of s) (length b.heads) (length b.demands) (length b.flows) (length b.statuses) (length b.entries) (length b.scratch))

-- the whole, for a way to repair
unfoldable pub solve_with : Repair → List ℕ → Lent → Solved
unfolding after_read
solve_with repair s b = after_read repair s b (read_of s)

abbrev pub solve_of : List ℕ → Lent → Solved
solve_of = solve_with repair_of
