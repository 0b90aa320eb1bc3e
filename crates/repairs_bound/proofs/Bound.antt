-- Demand 3 bettered: in a solve, a failed trial that ends the run has something left to repair, so no more than V + U trials fail one after the other. Assumes nothing.
use Prim.Native.Nat.{ℕ, zero, suc, ◌+◌, ◌≤◌, ◌<◌}
use mathlib.Core.Path.{◌≡◌, refl, sym, ◌∙◌}
use mathlib.Core.List.{List, [], ◌∷◌}
use mathlib.Core.Bool.{Bool, true, false, cond}
use native.Mathlib.Omega.{arith}
use native.Mathlib.Decide.{ℕ_discrete}
use lib.ListN.{get_or, set, drop}
use lib.Seq.{drop-nil, get_or-set_other}
use lib.Ieee.{Float}
use Rattle.layout.specs.declared.places.Layout.{Layout}
use Rattle.nodes.specs.Nodes.{serving}
use Rattle.sheet.specs.Read.{read_of}
use Rattle.found.specs.Searches.{First}
use Rattle.state.specs.State.{State}
use Rattle.damping.specs.declared.steps.Damping.{Damping}
use Rattle.entries.specs.Entries.{going_of, Going}
use Rattle.entries.specs.declared.Entry.{Entry}
use Rattle.entries.specs.declared.Ended.{Ended}
use Rattle.trial.specs.Trial.{Room, Outcome, repair_of, step_of, trial_of}
use Rattle.runs.specs.Run.{then_run, run_with}
use Rattle.solver.specs.Solve.{trials_of, start_of}
use Rattle.solver.proofs.Laws.{network_of}
use Rattle.promises.specs.Repairs.{Grounds, grounded_in, fails}
use Rattle.promises.specs.Trials.{Point, point, trial_at, run_at, damping_after, next, after_trials, start_point, run_in, point_in}
use Rattle.promises.specs.Bound.{failing, active, loose}
use Rattle.promises.proofs.Never.{other, never}
use Rattle.promises.proofs.Repairs.{ways, step_holds}
use Rattle.promises.proofs.Trials.{unmoved, shifted, on_damping}
use Rattle.promises.proofs.Grounding.{unmarked_at_start}
use Rattle.promises.proofs.Bound.{left, Lowered, loose_most, trial_lowers, trial_room, failing_none, start_room}
use Rattle.repairs_bound.specs.RepairsBound.{SolveRepairsBound}
use Rattle.repairs_bound.proofs.Joined.{joins}
use Rattle.repairs_bound.proofs.Flows.{Tame, start_tame, step_tame}
use Rattle.repairs_bound.proofs.Stops.{not-grounded, refused_loose}
use Rattle.std.specs.Prelude.{Ok}
use Rattle.std.proofs.Common.{Break, Continue}

-- ---- what holds before each trial

-- no flow is wild, and the lowest junction that a link in service touches is not grounded
record Sane (s : List ℕ) (l : Layout) (t : State) : Type 0 where
  flows : Tame l.links t.flows
  free : (v : ℕ) → First (joins s l) l.nodes v → get_or t.grounded v false ≡ false

start_sane : (s : List ℕ) (l : Layout) → read_of s ≡ Ok l → Sane s l (start_of s l)
start_sane s l read = record { flows = start_tame s l read; free = λ v f. unmarked_at_start s l v }

module _ (s : List ℕ) (l : Layout) (read : read_of s ≡ Ok l) where
  -- a trial grounds another junction
  grounded_sane : (t : State) → Sane s l t → (v : ℕ) → Grounds s l t v → Sane s l (grounded_in t v)
  grounded_sane t w v g = record { flows = w.flows; free = free }
    where
      free : (m : ℕ) → First (joins s l) l.nodes m → get_or (set t.grounded v true) m false ≡ false
      free m f = go (ℕ_discrete m v) f
        where
          go : Dec (m ≡ v) → First (joins s l) l.nodes m → get_or (set t.grounded v true) m false ≡ false
          go (yes e) f = absurd (not-grounded s l read t w.flows v (rw e at f) g)
          go (no e) f = get_or-set_other t.grounded v m true false e ∙ w.free m f

  -- after a trial with which the run goes on
  trial_sane : (d d' : Damping) (t : State) → Sane s l t → going_of d (trial_of s l d t).entry ≡ Continue d' → Sane s l (trial_of s l d t).state
  unfolding going_of
  trial_sane d d' t w =
      ways s l d t (λ o. going_of d o.entry ≡ Continue d' → Sane s l o.state)
      (λ j f on. record { flows = w.flows; free = w.free }) (λ v g on. grounded_sane t w v g) (λ v r on. w)
      (λ g y x on. stepped g y x on)
    where
      stepped : (g y x : List Float) → going_of d (step_of s l d t g y x).entry ≡ Continue d' → Sane s l (step_of s l d t g y x).state
      stepped g y x on = record { flows = step_tame s l d t g y x d' w.flows on; free = unfold step_of in w.free }

  -- a failed trial that ends the run is refused, and something is left to repair
  trial_left : (d : Damping) (z : Ended) (t : State) → Sane s l t → fails (trial_of s l d t).entry ≡ true → going_of d (trial_of s l d t).entry ≡ Break z → 1 ≤ left s l t
  unfolding going_of left
  trial_left d z t w =
      ways s l d t (λ o. fails o.entry ≡ true → going_of d o.entry ≡ Break z → 1 ≤ active s l t + loose s l t)
      (λ j f h over. other (cc)) (λ v g h over. other (cc))
      (λ v r h over. omega (arith, refused_loose s l read t w.free v r))
      (λ g y x h over. never (sym (step_holds s l d t g y x) ∙ h))

  -- ---- a run

  failing_cons : (e : Entry) (es : List Entry) (b : ℕ) → (fails e ≡ true → failing es < b) → failing (e ∷ es) ≤ b
  unfolding failing
  failing_cons e es b h = go (fails e) refl
    where
      go : (t : Bool) → fails e ≡ t → cond {A = ℕ} t (suc (failing es)) 0 ≤ b
      go true p = h p
      go false p = omega arith

  right : l.unknowns ≡ serving s l l.nodes
  right = (network_of s l read).unknowns

  from_start : (m : ℕ) (p : Point) → Room l p.state → Sane s l p.state → failing (run_at s l m p).entries ≤ left s l p.state
  unfolding run_with then_run
  from_start zero p w z = omega (arith, failing_none)
  from_start (suc m) p w z =
      go (trial_at s l p) (going_of p.damping (trial_at s l p).entry) refl (from_start m) (trial_room s l right p.damping p.state w) (trial_lowers s l right p.damping p.state w)
      (λ d' on. trial_sane p.damping d' p.state z on) (λ y h over. trial_left p.damping y p.state z h over)
    where
      go : (o : Outcome) (g : Going) → going_of p.damping o.entry ≡ g
          → ((p : Point) → Room l p.state → Sane s l p.state → failing (run_at s l m p).entries ≤ left s l p.state)
          → Room l o.state
          → ((d' : Damping) → fails o.entry ≡ true → going_of p.damping o.entry ≡ Continue d' → Lowered s l p.state o.state)
          → ((d' : Damping) → going_of p.damping o.entry ≡ Continue d' → Sane s l o.state)
          → ((y : Ended) → fails o.entry ≡ true → going_of p.damping o.entry ≡ Break y → 1 ≤ left s l p.state)
          → failing (then_run o.entry o.state g (run_with repair_of s l m)).entries ≤ left s l p.state
      go o (Continue d') e ih wide low sane some =
          failing_cons o.entry (run_with repair_of s l m d' o.state).entries (left s l p.state)
          (λ h. omega (arith, ih (point d' o.state) wide (sane d' e), (low d' h e).by_one))
      go o (Break y) e ih wide low sane some = failing_cons o.entry [] (left s l p.state) (λ h. omega (arith, failing_none, some y h e))

  from_any : (i m : ℕ) (p : Point) → Room l p.state → Sane s l p.state → failing (drop i (run_at s l m p).entries) ≤ left s l (after_trials s l i p).state
  unfolding run_with then_run next
  from_any zero m p w z = rw (unmoved s l p) (from_start m p w z)
  from_any (suc i) zero p w z = omega (arith, failing_none)
  from_any (suc i) (suc m) p w z =
      rw (shifted s l i p)
      (go (trial_at s l p) refl (going_of p.damping (trial_at s l p).entry) refl (from_any i m) (trial_room s l right p.damping p.state w) (λ d' on. trial_sane p.damping d' p.state z on))
    where
      go : (o : Outcome) → trial_at s l p ≡ o → (g : Going) → going_of p.damping o.entry ≡ g
          → ((p : Point) → Room l p.state → Sane s l p.state → failing (drop i (run_at s l m p).entries) ≤ left s l (after_trials s l i p).state)
          → Room l o.state
          → ((d' : Damping) → going_of p.damping o.entry ≡ Continue d' → Sane s l o.state)
          → failing (drop (suc i) (then_run o.entry o.state g (run_with repair_of s l m)).entries) ≤ left s l (after_trials s l i (point (damping_after p.damping o.entry) o.state)).state
      go o q (Continue d') e ih wide sane = rw (on_damping p.damping d' o.entry e) (ih (point d' o.state) wide (sane d' e))
      go o q (Break y) e ih wide sane = rw (drop-nil {A = Entry} i) (omega (arith, failing_none))

-- Of the solve of any sheet, wherever a run of failed trials begins, it is at most V + U trials long.
pub solve_repairs_bound : SolveRepairsBound
unfolding run_in point_in start_point left
solve_repairs_bound s l read i =
    omega (arith, from_any s l read i (trials_of s) (start_point s l) (start_room s l read) (start_sane s l read), loose_most s l (after_trials s l i (start_point s l)).state)
