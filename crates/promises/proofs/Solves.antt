-- The ways of a solve: whatever holds of each of them holds of it. Assumes nothing.
use Prim.Native.Nat.{ℕ}
use mathlib.Core.Path.{◌≡◌, refl}
use mathlib.Core.List.{List}
use Rattle.refusals.specs.Refusals.{number_of, place_of}
use Rattle.refusals.specs.declared.refusals.Refusal.{Refusal}
use Rattle.sheet.specs.Read.{read_of, Reading}
use Rattle.layout.specs.declared.places.Layout.{Layout}
use Rattle.trial.specs.Trial.{Repair, repair_of}
use Rattle.entries.specs.Entries.{none, tallied}
use Rattle.marks.specs.Marks.{written}
use Rattle.runs.specs.Run.{finish}
use Rattle.answers.specs.Answers.{Lent, Solved, Enough, refused_of}
use Rattle.conclusion.specs.Conclusion.{told}
use Rattle.answers.proofs.Laws.{enough}
use Rattle.solver.specs.Solve.{trials_of, run_of, solved_with, after_short, after_read, solve_with}
use Rattle.promises.specs.Trials.{start_point, run_in}
use Rattle.promises.specs.Solves.{short_in, Runs}
use Rattle.std.specs.Prelude.{Err, None, Ok, Option, Some}

module _ (repair : Repair) (s : List ℕ) (b : Lent) where
  -- a solve that comes to its trials
  pub comes : (l : Layout) → Runs s b l → solve_with repair s b ≡ solved_with repair s l b
  unfolding solve_with after_read after_short short_in
  comes l w = rw (w.read, w.enough)

  -- refused by its sheet, by its buffers, or coming to its trials
  pub ways : (P : Solved → Type 0)
      → ((r : Refusal) → read_of s ≡ Err r → P (refused_of (number_of r) (place_of r) b))
      → ((l : Layout) (place : ℕ) → read_of s ≡ Ok l → short_in s l b ≡ Some place → P (refused_of 5 place b))
      → ((l : Layout) → Runs s b l → P (solved_with repair s l b))
      → P (solve_with repair s b)
  unfolding solve_with after_read after_short short_in
  ways P refuse short run = go (read_of s) refl
    where
      later : (l : Layout) → read_of s ≡ Ok l → (f : Option ℕ) → short_in s l b ≡ f → P (after_short repair s l b f)
      later l e (Some p) q = short l p e q
      later l e None q = run l (record { read = e; enough = q })

      go : (r : Reading) → read_of s ≡ r → P (after_read repair s b r)
      go (Err r) e = refuse r e
      go (Ok l) e = later l e (short_in s l b) refl

pub runs_enough : (s : List ℕ) (b : Lent) (l : Layout) → Runs s b l → Enough l (trials_of s) b
unfolding short_in
runs_enough s b l w = enough l (trials_of s) b w.enough

module _ (s : List ℕ) (l : Layout) (b : Lent) where
  -- its end tells the run's
  pub tells : solved_with repair_of s l b
      ≡ told s l (trials_of s) b (run_in s l).state (tallied none (run_in s l).entries) (written 0 (run_in s l).entries b.entries) (run_in s l).ended
  unfolding solved_with run_of finish run_in start_point
  tells = refl
