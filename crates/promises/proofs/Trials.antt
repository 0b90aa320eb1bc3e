-- Demand 2: each entry of a run, and the state after it, follow from the state before it. Assumes nothing.
use Prim.Native.Nat.{ℕ, zero, suc, ◌<◌}
use mathlib.Core.Path.{◌≡◌, refl}
use mathlib.Core.List.{List}
use mathlib.Core.Bool.{Bool, true, false, cond}
use native.Mathlib.Omega.{arith}
use lib.ListN.{length, get_or}
use lib.Ieee.{Float, le, lt, eq, of_bits, of_fields, odd}
use lib.Count.{count_trailing_zeros}
use Rattle.records.specs.Records.{options_of}
use Rattle.records.specs.declared.records.Options.{Options}
use Rattle.layout.specs.declared.places.Layout.{Layout}
use Rattle.damping.specs.Damping.{damped_of, relative_change, converged_of, InRange}
use Rattle.damping.proofs.Bounded.{in_range}
use Rattle.state.specs.State.{State}
use Rattle.wild.specs.Wild.{wild_place}
use Rattle.update.specs.declared.Stats.{Stats}
use Rattle.damping.specs.declared.steps.Damping.{Damping}
use Rattle.entries.specs.declared.Entry.{Entry}
use Rattle.entries.specs.declared.Entry.TheVariants.{Freed, Grounded, Singular, Wild, Stepped, Converged}
use Rattle.trial.specs.Trial.{Outcome, repair_of, judged, step_entry, step_of}
use Rattle.entries.specs.Entries.{damping_start, going_of, no_entry, Going}
use Rattle.runs.specs.Run.{then_run, run_with}
use Rattle.solver.specs.Solve.{trials_of}
use Rattle.promises.specs.Trials.{Point, point, trial_at, run_at, damping_after, next, after_trials, start_point, run_in, point_in}
use Rattle.promises.specs.Statements.{SolveEachEntry, SolveEachState, SolveLastState, SolveInRange}
use Rattle.promises.proofs.Never.{other}
use Rattle.promises.proofs.Repairs.{step_entry_lem, ways}
use Rattle.std.specs.Prelude.{None, Option, Some}
use Rattle.std.proofs.Common.{Break, Continue}
use Rattle.causes.specs.Causes.{Flip}

pub unmoved : (s : List ℕ) (l : Layout) (p : Point) → after_trials s l 0 p ≡ p
unfolding after_trials
unmoved s l p = refl

-- the first trial, then i more
pub shifted : (s : List ℕ) (l : Layout) (i : ℕ) (p : Point) → after_trials s l (suc i) p ≡ after_trials s l i (next s l p)
unfolding after_trials
shifted s l zero p = refl
shifted s l (suc i) p = rw (← shifted s l i p)

-- where a run goes on, it goes on with the damping after the entry
pub on_damping : (d d' : Damping) (e : Entry) → going_of d e ≡ Continue d' → damping_after d e ≡ d'
unfolding going_of damping_after
on_damping d d' (Freed i) h = cc
on_damping d d' (Grounded i) h = cc
on_damping d d' (Singular i) h = other (cc)
on_damping d d' (Wild p) h = other (cc)
on_damping d d' (Stepped x flip) h = cc
on_damping d d' (Converged flip) h = other (cc)

-- ---- each entry

module _ (s : List ℕ) (l : Layout) where
  -- Demand 2: entry i of a run is that of a trial of the state after the first i trials, with the damping after them.
  pub each_entry : (m i : ℕ) (p : Point) → i < length (run_at s l m p).entries → get_or (run_at s l m p).entries i no_entry ≡ (trial_at s l (after_trials s l i p)).entry
  unfolding run_with then_run next
  each_entry zero i p h = absurd (let y : ⊥ = omega arith in y)
  each_entry (suc m) i p h = go (trial_at s l p) refl (going_of p.damping (trial_at s l p).entry) refl i (each_entry m) h
    where
      go : (o : Outcome) → trial_at s l p ≡ o → (g : Going) → going_of p.damping o.entry ≡ g → (i : ℕ)
          → ((i : ℕ) (p : Point) → i < length (run_at s l m p).entries → get_or (run_at s l m p).entries i no_entry ≡ (trial_at s l (after_trials s l i p)).entry)
          → i < length (then_run o.entry o.state g (run_with repair_of s l m)).entries
          → get_or (then_run o.entry o.state g (run_with repair_of s l m)).entries i no_entry ≡ (trial_at s l (after_trials s l i p)).entry
      go o q (Continue d') e zero ih h = rw (unmoved s l p, q)
      go o q (Break z) e zero ih h = rw (unmoved s l p, q)
      go o q (Continue d') e (suc i) ih h = rw (shifted s l i p, q, on_damping p.damping d' o.entry e) (ih i (point d' o.state) (omega arith))
      go o q (Break z) e (suc i) ih h = absurd (let y : ⊥ = omega arith in y)

  -- The state after it is the one that this trial leaves.
  pub each_state : (i : ℕ) (p : Point) → (after_trials s l (suc i) p).state ≡ (trial_at s l (after_trials s l i p)).state
  unfolding after_trials next
  each_state i p = refl

  -- The state that a run leaves is the one after all its entries.
  pub last_state : (m : ℕ) (p : Point) → (run_at s l m p).state ≡ (after_trials s l (length (run_at s l m p).entries) p).state
  unfolding run_with then_run next
  last_state zero p = rw (unmoved s l p)
  last_state (suc m) p = go (trial_at s l p) refl (going_of p.damping (trial_at s l p).entry) refl (last_state m)
    where
      go : (o : Outcome) → trial_at s l p ≡ o → (g : Going) → going_of p.damping o.entry ≡ g
          → ((p : Point) → (run_at s l m p).state ≡ (after_trials s l (length (run_at s l m p).entries) p).state)
          → (then_run o.entry o.state g (run_with repair_of s l m)).state ≡ (after_trials s l (length (then_run o.entry o.state g (run_with repair_of s l m)).entries) p).state
      go o q (Continue d') e ih = rw (shifted s l (length (run_with repair_of s l m d' o.state).entries) p, q, on_damping p.damping d' o.entry e) (ih (point d' o.state))
      go o q (Break z) e ih = rw (shifted s l 0 p, unmoved s l (next s l p), q)

-- ---- the damping factor

start_in : InRange damping_start.factor
unfolding damping_start le lt eq of_bits of_fields odd count_trailing_zeros
start_in = record { least = tt; most = tt }

judged_in : (o : Options) (d : Damping) (m : Stats) (flip : Flip) → InRange d.factor → InRange (damping_after d (judged o d m flip)).factor
unfolding judged damping_after
judged_in o d m flip r = go (converged_of change o.accuracy m.changed m.largest o.unit o.change)
  where
    change : Float
    change = relative_change m.moved m.total o.accuracy

    go : (b : Bool) → InRange (damping_after d (cond b (Converged flip) (Stepped (record { factor = damped_of d.factor d.previous change o.damping; previous = change }) flip))).factor
    go true = r
    go false = in_range d.factor r d.previous change o.damping

entry_in : (f : Option ℕ) (o : Options) (d : Damping) (m : Stats) (flip : Flip) → InRange d.factor → InRange (damping_after d (step_entry f o d m flip)).factor
unfolding step_entry damping_after
entry_in (Some p) o d m flip r = r
entry_in None o d m flip r = judged_in o d m flip r

module _ (s : List ℕ) (l : Layout) where
  step_in : (d : Damping) (t : State) → InRange d.factor → (g y x : List Float) → InRange (damping_after d (step_of s l d t g y x).entry).factor
  step_in d t r g y x = step_entry_lem s l d t g y x (λ e. InRange (damping_after d e).factor) (λ h q f m flip. entry_in (wild_place l h q f) (options_of s) d m flip r)

  -- A trial keeps the damping factor from 0.25 to 1.
  pub kept_in_range : (p : Point) → InRange p.damping.factor → InRange (next s l p).damping.factor
  unfolding next damping_after
  kept_in_range p r =
      ways s l p.damping p.state (λ o. InRange (damping_after p.damping o.entry).factor)
      (λ j w. r) (λ v w. r) (λ v w. r) (step_in p.damping p.state r)

  stays : (i : ℕ) (p : Point) → InRange p.damping.factor → InRange (after_trials s l i p).damping.factor
  unfolding after_trials
  stays zero p r = r
  stays (suc i) p r = kept_in_range (after_trials s l i p) (stays i p r)

-- ---- a solve

-- Of the solve of any sheet: the state that its run leaves is the one after all its entries,
pub solve_last_state : SolveLastState
unfolding run_in point_in
solve_last_state s l = last_state s l (trials_of s) (start_point s l)

-- the state after each entry is the one that its trial leaves,
pub solve_each_state : SolveEachState
unfolding point_in
solve_each_state s l i = each_state s l i (start_point s l)

-- and the damping factor stays from 0.25 to 1.
pub solve_in_range : SolveInRange
unfolding point_in start_point
solve_in_range s l i =
    let r = stays s l i (start_point s l) start_in in
    (r.least, r.most)
