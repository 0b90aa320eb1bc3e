-- One turn of the run of trials, over plain variables. Assumes nothing.
use Prim.Native.Nat.{ℕ, zero, suc, ◌+◌, ◌-◌, ◌≤◌, ◌<◌}
use mathlib.Core.Path.{◌≡◌, refl, ap, ◌∙◌}
use mathlib.Core.List.{List, [], ◌∷◌}
use mathlib.Core.Bool.{Bool}
use native.Mathlib.Omega.{arith}
use native.Mathlib.Numerals.{add-one}
use lib.ListN.{length}
use lib.Ieee.{Float}
use Rattle.damping.specs.declared.steps.Damping.{Damping}
use Rattle.entries.specs.declared.Entry.{Entry}
use Rattle.entries.specs.declared.Entry.TheVariants.{Freed, Grounded, Singular, Wild, Stepped, Converged}
use Rattle.layout.specs.declared.places.Layout.{Layout}
use Rattle.state.specs.State.{State}
use Rattle.trial.specs.Trial.{Room, Outcome, outcome, Repair, trial_with}
use Rattle.entries.specs.Entries.{going_of, counted, tallied, Going}
use Rattle.marks.specs.Marks.{mark_of, put_of, written}
use Rattle.marks.specs.declared.Mark.{Mark}
use Rattle.entries.specs.declared.Ended.{Ended}
use Rattle.entries.specs.declared.Ended.TheVariants.{Limit}
use Rattle.entries.specs.declared.Tally.{Tally}
use Rattle.runs.specs.Run.{Turned, turn_of, Run, Finished, then_run, run_with, finish}
use Rattle.std.proofs.Common.{Break, Continue}

-- every lent slice has the length that it came with
pub record Kept (t₀ t : State) (r₀ r : List ℕ) (x₀ x : List Float) : Type 0 where
  pub heads : length t.heads ≡ length t₀.heads
  pub demands : length t.demands ≡ length t₀.demands
  pub drawn : length t.drawn ≡ length t₀.drawn
  pub flows : length t.flows ≡ length t₀.flows
  pub statuses : length t.statuses ≡ length t₀.statuses
  pub grounded : length t.grounded ≡ length t₀.grounded
  pub entries : length r ≡ length r₀
  pub scratch : length x ≡ length x₀

pub kept_start : (t : State) (r : List ℕ) (x : List Float) → Kept t t r r x x
kept_start t r x = record { heads = refl; demands = refl; drawn = refl; flows = refl; statuses = refl; grounded = refl; entries = refl; scratch = refl }

pub kept_room : (l : Layout) (t₀ t : State) (r₀ r : List ℕ) (x₀ x : List Float) → Kept t₀ t r₀ r x₀ x → Room l t₀ → Room l t
kept_room l t₀ t r₀ r x₀ x c m = record { heads = omega arith; demands = omega arith; drawn = omega arith; flows = omega arith; statuses = omega arith; grounded = omega arith }

-- one more is counted
pub record Counts (t u : Tally) : Type 0 where
  pub trials : u.trials ≡ t.trials + 1
  pub freed : u.freed ≤ t.freed + 1
  pub grounded : u.grounded ≤ t.grounded + 1

pub counts : (t : Tally) (e : Entry) → Counts t (counted t e)
unfolding counted
counts t (Freed i) = record { trials = refl; freed = omega arith; grounded = omega arith }
counts t (Grounded i) = record { trials = refl; freed = omega arith; grounded = omega arith }
counts t (Singular i) = record { trials = refl; freed = omega arith; grounded = omega arith }
counts t (Wild i) = record { trials = refl; freed = omega arith; grounded = omega arith }
counts t (Stepped i flip) = record { trials = refl; freed = omega arith; grounded = omega arith }
counts t (Converged flip) = record { trials = refl; freed = omega arith; grounded = omega arith }

-- an entry a trial
pub tallied_trials : (t : Tally) (es : List Entry) → (tallied t es).trials ≡ t.trials + length es
unfolding tallied
tallied_trials t [] = omega arith
tallied_trials t (e ∷ es) = omega (arith, tallied_trials (counted t e) es, (counts t e).trials)

-- a run has at most as many entries as it may take trials
pub run_length : (repair : Repair) (s : List ℕ) (l : Layout) (m : ℕ) (d : Damping) (t : State) → length (run_with repair s l m d t).entries ≤ m
unfolding run_with then_run
run_length repair s l zero d t = omega arith
run_length repair s l (suc m) d t = go (trial_with repair s l d t) (going_of d (trial_with repair s l d t).entry) (run_length repair s l m)
  where
    go : (o : Outcome) (g : Going) → ((d : Damping) (t : State) → length (run_with repair s l m d t).entries ≤ m)
        → length (then_run o.entry o.state g (run_with repair s l m)).entries ≤ suc m
    go o (Continue d') ih = let h = ih d' o.state in omega arith
    go o (Break z) ih = omega arith

-- a turn, after which the run goes on or is over, and the limit
module _ (repair : Repair) (s : List ℕ) (l : Layout) (m : ℕ) (d : Damping) (tally : Tally) (r : List ℕ) (t : State) where
  pub turn_of_lem : (e : Entry) (t' : State) (mark : Mark) (r' : List ℕ) (g : Going) (tally' : Tally)
      → outcome e t' ≡ trial_with repair s l d t → mark ≡ mark_of e → r' ≡ put_of r tally.trials mark → g ≡ going_of d e → tally' ≡ counted tally e
      → record { turn = record { going = g; tally = tally' }; bytes = r'; state = t' } ≡ turn_of repair s l d tally r t
  unfolding turn_of
  turn_of_lem e t' mark r' g tally' o em er eg et = rw (← o, er, em, eg, et)

  pub turn_counts : (w : Turned) → w ≡ turn_of repair s l d tally r t → Counts tally w.turn.tally
  unfolding turn_of
  turn_counts w e = rw e (counts tally (trial_with repair s l d t).entry)

  -- what is still to run
  abbrev left : ℕ → Run
  left i = run_with repair s l (m - i) d t

  pub run_on : (w : Turned) (d' : Damping) → tally.trials < m → w ≡ turn_of repair s l d tally r t → w.turn.going ≡ Continue d'
      → finish w.turn.tally.trials w.turn.tally w.bytes (run_with repair s l (m - w.turn.tally.trials) d' w.state) ≡ finish tally.trials tally r (left tally.trials)
  unfolding turn_of run_with then_run finish written tallied
  run_on w d' h e on =
      let i = tally.trials in
      let from : ℕ → Finished = λ n. finish n w.turn.tally w.bytes (run_with repair s l (m - n) d' w.state) in
      let p : m - i ≡ suc (m - suc i) = omega arith in
      let g : going_of d (trial_with repair s l d t).entry ≡ Continue d' = rw e at on in
      let next : from (suc i) ≡ finish i tally r (left i) = rw (e, p, g) in
      ap from ((turn_counts w e).trials ∙ add-one i) ∙ next

  pub run_over : (w : Turned) (z : Ended) → tally.trials < m → w ≡ turn_of repair s l d tally r t → w.turn.going ≡ Break z
      → record { ran = record { ended = z; tally = w.turn.tally }; bytes = w.bytes; state = w.state } ≡ finish tally.trials tally r (left tally.trials)
  unfolding turn_of run_with then_run finish written tallied
  run_over w z h e over =
      let p : m - tally.trials ≡ suc (m - suc tally.trials) = omega arith in
      let g : going_of d (trial_with repair s l d t).entry ≡ Break z = rw e at over in
      rw (e, p, g)

  pub run_limit : m ≤ tally.trials → record { ran = record { ended = Limit; tally = tally }; bytes = r; state = t } ≡ finish tally.trials tally r (left tally.trials)
  unfolding run_with then_run finish written tallied
  run_limit h =
      let p : m - tally.trials ≡ 0 = omega arith in
      rw p
