-- A solve computed without clearing what is already +0.0: equal to the solve, and fit for worked examples. Assumes nothing.
use Prim.Native.Nat.{ℕ, zero, suc}
use mathlib.Core.Path.{◌≡◌, refl, sym, ap, ◌∙◌}
use mathlib.Core.List.{List, [], ◌∷◌}
use Rattle.linear.specs.Factorization.{factor_of}
use Rattle.columns.specs.Columns.{cleared, zeros}
use Rattle.columns.proofs.Laws.{cleared_zeros, zeros_long}
use Rattle.excess.specs.Excess.{excess_of}
use Rattle.assembly.specs.Assembly.{System, system, view, with_links, right_of, grounded_of, assemble_of}
use Rattle.drawing.specs.Drawing.{counting}
use Rattle.bends.specs.Bends.{bent_matrix}
use Rattle.state.specs.State.{State}
use Rattle.damping.specs.declared.steps.Damping.{Damping}
use Rattle.entries.specs.declared.Entry.{Entry}
use Rattle.trial.specs.Trial.{Outcome, Repair, system_of, factored, trial_with}
use Rattle.entries.specs.declared.Ended.TheVariants.{Limit}
use Rattle.entries.specs.Entries.{going_of, damping_start, none, Going}
use Rattle.runs.specs.Run.{Run, then_run, run_with, finish}
use lib.ListN.{length}
use Rattle.sheet.specs.Read.{read_of}
use Rattle.layout.specs.declared.places.Layout.{Layout}
use Rattle.answers.specs.Answers.{Lent, Solved, too_short}
use Rattle.conclusion.specs.Conclusion.{told}
use Rattle.solver.specs.Solve.{trials_of, start_of, run_of, solved_with, after_short, after_read, solve_with}
use Rattle.std.specs.Prelude.{None, Ok}
use Rattle.std.proofs.Common.{Break, Continue}

unfoldable pub quick_system : List ℕ → Layout → State → System
quick_system s l t =
    let e = excess_of s l (counting l.pressures t.drawn t.demands) t.flows (zeros 64) in
    let links = with_links s l (view t.heads t.flows t.statuses e) l.links (system (zeros 4096) (zeros 64) (zeros 128) (zeros 128)) in
    system (grounded_of s l t.grounded l.nodes (bent_matrix s l t.demands t.drawn links.matrix)) (right_of s l t.demands t.drawn links.rhs) links.g links.y

pub quick_system_lem : (s : List ℕ) (l : Layout) (t : State) → system_of s l t ≡ quick_system s l t
unfolding system_of assemble_of quick_system
quick_system_lem s l t = rw (cleared_zeros 4096 (zeros 4096) (zeros_long 4096), cleared_zeros 64 (zeros 64) (zeros_long 64))

unfoldable pub quick_trial : Repair → List ℕ → Layout → Damping → State → Outcome
quick_trial repair s l d t =
    let a = quick_system s l t in
    let f = factor_of l.unknowns a.matrix in
    factored repair s l d t a f.matrix f.answer

pub quick_trial_lem : (repair : Repair) (s : List ℕ) (l : Layout) (d : Damping) (t : State) → trial_with repair s l d t ≡ quick_trial repair s l d t
unfolding trial_with quick_trial
quick_trial_lem repair s l d t =
    ap (λ (a : System). factored repair s l d t a (factor_of l.unknowns a.matrix).matrix (factor_of l.unknowns a.matrix).answer) (quick_system_lem s l t)

unfoldable pub quick_run : Repair → List ℕ → Layout → ℕ → Damping → State → Run
quick_run repair s l zero d t = record { entries = []; ended = Limit; state = t }
quick_run repair s l (suc m) d t =
    let o = quick_trial repair s l d t in
    then_run o.entry o.state (going_of d o.entry) (quick_run repair s l m)

same_then : (e : Entry) (t : State) (g : Going) (f h : Damping → State → Run) → ((d : Damping) (u : State) → f d u ≡ h d u) → then_run e t g f ≡ then_run e t g h
unfolding then_run
same_then e t (Continue d) f h p = rw (p d t)
same_then e t (Break z) f h p = refl

pub quick_run_lem : (repair : Repair) (s : List ℕ) (l : Layout) (m : ℕ) (d : Damping) (t : State) → run_with repair s l m d t ≡ quick_run repair s l m d t
unfolding run_with quick_run
quick_run_lem repair s l zero d t = refl
quick_run_lem repair s l (suc m) d t =
    same_then (trial_with repair s l d t).entry (trial_with repair s l d t).state (going_of d (trial_with repair s l d t).entry) (run_with repair s l m) (quick_run repair s l m) (λ d' u. quick_run_lem repair s l m d' u)
    ∙ ap (λ (o : Outcome). then_run o.entry o.state (going_of d o.entry) (quick_run repair s l m)) (quick_trial_lem repair s l d t)

unfoldable pub quick_solve : Repair → List ℕ → Layout → Lent → Solved
quick_solve repair s l b =
    let f = finish 0 none b.entries (quick_run repair s l (trials_of s) damping_start (start_of s l)) in
    told s l (trials_of s) b f.state f.ran.tally f.bytes f.ran.ended

pub quick_solve_lem : (repair : Repair) (s : List ℕ) (l : Layout) (b : Lent) → read_of s ≡ Ok l
    → too_short l (trials_of s) (length b.heads) (length b.demands) (length b.flows) (length b.statuses) (length b.entries) (length b.scratch) ≡ None
    → solve_with repair s b ≡ quick_solve repair s l b
unfolding solve_with after_read after_short solved_with run_of quick_solve
quick_solve_lem repair s l b good enough = rw (good, enough, quick_run_lem repair s l (trials_of s) damping_start (start_of s l))
