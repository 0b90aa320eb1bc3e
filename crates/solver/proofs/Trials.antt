-- A solve counts at most as many trials as its sheet allows. Assumes nothing.
use Prim.Native.Nat.{ℕ, ◌≤◌}
use mathlib.Core.Path.{◌≡◌, refl, sym}
use mathlib.Core.List.{List}
use native.Mathlib.Omega.{arith}
use lib.ListN.{length}
use Rattle.sheet.specs.Read.{read_of, Reading}
use Rattle.layout.specs.declared.places.Layout.{Layout}
use Rattle.state.specs.State.{State}
use Rattle.trial.specs.Trial.{Repair}
use Rattle.entries.specs.Entries.{none, damping_start}
use Rattle.entries.specs.declared.Ended.{Ended}
use Rattle.entries.specs.declared.Ended.TheVariants.{Balanced, Failed, Strayed, Limit}
use Rattle.entries.specs.declared.Tally.{Tally}
use Rattle.runs.specs.Run.{run_with, finish}
use Rattle.runs.proofs.Laws.{tallied_trials, run_length}
use Rattle.answers.specs.Answers.{Lent, too_short, refused_of, failed_of}
use Rattle.conclusion.specs.Conclusion.{unsolved, delivered, told}
use Rattle.solver.specs.Solve.{trials_of, start_of, run_of, solved_with, after_short, after_read, solve_with}
use Rattle.solver.proofs.Laws.{few_trials}
use Rattle.std.specs.Prelude.{Err, None, Ok, Option, Some}

told_trials : (s : List ℕ) (l : Layout) (trials : ℕ) (b : Lent) (t : State) (tally : Tally) (bytes : List ℕ) (ended : Ended) → (told s l trials b t tally bytes ended).answer.trials ≡ tally.trials
unfolding told delivered unsolved failed_of
told_trials s l trials b t tally bytes Balanced = refl
told_trials s l trials b t tally bytes (Failed node) = refl
told_trials s l trials b t tally bytes (Strayed place) = refl
told_trials s l trials b t tally bytes Limit = refl

run_trials : (repair : Repair) (s : List ℕ) (l : Layout) (bytes : List ℕ) → (run_of repair s l bytes).ran.tally.trials ≤ trials_of s
unfolding run_of finish
run_trials repair s l bytes =
    let r = run_with repair s l (trials_of s) damping_start (start_of s l) in
    omega (arith, tallied_trials none r.entries, run_length repair s l (trials_of s) damping_start (start_of s l))

solved_trials : (repair : Repair) (s : List ℕ) (l : Layout) (b : Lent) → (solved_with repair s l b).answer.trials ≤ trials_of s
unfolding solved_with
solved_trials repair s l b =
    let f = run_of repair s l b.entries in
    rw (told_trials s l (trials_of s) b f.state f.ran.tally f.bytes f.ran.ended) (run_trials repair s l b.entries)

short_trials : (repair : Repair) (s : List ℕ) (l : Layout) (b : Lent) (f : Option ℕ) → (after_short repair s l b f).answer.trials ≤ trials_of s
unfolding after_short refused_of failed_of
short_trials repair s l b (Some place) = omega arith
short_trials repair s l b None = solved_trials repair s l b

read_trials : (repair : Repair) (s : List ℕ) (b : Lent) (reading : Reading) → reading ≡ read_of s → (after_read repair s b reading).answer.trials ≤ 200
unfolding after_read refused_of failed_of
read_trials repair s b (Err r) e = omega arith
read_trials repair s b (Ok l) e =
    omega (arith, few_trials s l (sym e), short_trials repair s l b (too_short l (trials_of s) (length b.heads) (length b.demands) (length b.flows) (length b.statuses) (length b.entries) (length b.scratch)))

-- and at most as many as its sheet allows
pub allowed_trials : (repair : Repair) (s : List ℕ) (l : Layout) (b : Lent) → read_of s ≡ Ok l → (solve_with repair s b).answer.trials ≤ trials_of s
unfolding solve_with after_read
allowed_trials repair s l b e =
    rw e
    (short_trials repair s l b (too_short l (trials_of s) (length b.heads) (length b.demands) (length b.flows) (length b.statuses) (length b.entries) (length b.scratch)))

pub solve_trials : (repair : Repair) (s : List ℕ) (b : Lent) → (solve_with repair s b).answer.trials ≤ 200
unfolding solve_with
solve_trials repair s b = read_trials repair s b (read_of s) refl
