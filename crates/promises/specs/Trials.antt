-- Where a run of trials stands after its first i trials. Definitions only.
use Rattle.std.specs.Prelude.{ℕ, zero, suc, List}
use Rattle.layout.specs.declared.places.Layout.{Layout}
use Rattle.state.specs.State.{State}
use Rattle.damping.specs.declared.steps.Damping.{Damping}
use Rattle.entries.specs.declared.Entry.{Entry}
use Rattle.entries.specs.declared.Entry.TheVariants.{Freed, Grounded, Singular, Wild, Stepped, Converged}
use Rattle.trial.specs.Trial.{Outcome, repair_of, trial_of}
use Rattle.entries.specs.Entries.{damping_start}
use Rattle.runs.specs.Run.{Run, run_with}
use Rattle.solver.specs.Solve.{trials_of, start_of}

-- between two trials: the damping and the state
pub record Point : Type 0 where
  pub damping : Damping
  pub state : State

abbrev pub point : Damping → State → Point
point d t = record { damping = d; state = t }

-- a trial, and a run of at most m trials, from a point
abbrev pub trial_at : List ℕ → Layout → Point → Outcome
trial_at s l p = trial_of s l p.damping p.state

abbrev pub run_at : List ℕ → Layout → ℕ → Point → Run
run_at s l m p = run_with repair_of s l m p.damping p.state

-- the damping after an entry: a step gives the next one, whatever else keeps it
unfoldable pub damping_after : Damping → Entry → Damping
damping_after d (Freed i) = d
damping_after d (Grounded i) = d
damping_after d (Singular i) = d
damping_after d (Wild p) = d
damping_after d (Stepped next flip) = next
damping_after d (Converged flip) = d

-- one trial on
unfoldable pub next : List ℕ → Layout → Point → Point
unfolding damping_after
next s l p = point (damping_after p.damping (trial_at s l p).entry) (trial_at s l p).state

-- i trials on
unfoldable pub after_trials : List ℕ → Layout → ℕ → Point → Point
unfolding next
after_trials s l zero p = p
after_trials s l (suc i) p = next s l (after_trials s l i p)

-- of the solve of a sheet: where it starts, its run, and where that stands after i trials
unfoldable pub start_point : List ℕ → Layout → Point
start_point s l = point damping_start (start_of s l)

unfoldable pub run_in : List ℕ → Layout → Run
unfolding start_point
run_in s l = run_at s l (trials_of s) (start_point s l)

unfoldable pub point_in : List ℕ → Layout → ℕ → Point
unfolding start_point after_trials
point_in s l i = after_trials s l i (start_point s l)
