-- A mark has its entry: marks are set by GN entries alone, and a solve begins with none. Assumes nothing.
use Prim.Native.Nat.{ℕ, zero, suc, ◌+◌, ◌-◌, ◌≤◌, ◌<◌}
use mathlib.Core.Path.{◌≡◌, refl, sym, ap, subst, ◌∙◌}
use mathlib.Core.Logic.{◌⊎◌, inl, inr, ⊎_elim}
use mathlib.Core.Bool.{true, false}
use mathlib.Core.List.{List}
use native.Mathlib.Omega.{arith}
use native.Mathlib.Decide.{ℕ_discrete}
use lib.ListN.{length, get_or, set, replicate}
use lib.Seq.{get_or-set_other}
use Rattle.layout.specs.declared.places.Layout.{Layout}
use Rattle.sheet.specs.Read.{read_of}
use Rattle.nodes.specs.declared.NodeIndex.{NodeIndex}
use Rattle.state.specs.State.{State}
use Rattle.entries.specs.Entries.{no_entry}
use Rattle.entries.specs.declared.Entry.{Entry}
use Rattle.entries.specs.declared.Entry.TheVariants.{Grounded, Singular}
use Rattle.marks.specs.Marks.{mark_of}
use Rattle.trial.specs.Trial.{Outcome, step_of}
use Rattle.answers.specs.Answers.{Lent}
use Rattle.solver.specs.Solve.{start_of, solve_of}
use Rattle.solver.proofs.Laws.{network_of}
use Rattle.promises.specs.Repairs.{Grounds, Refuses}
use Rattle.promises.specs.Trials.{Point, trial_at, after_trials, start_point, run_in, point_in}
use Rattle.promises.specs.Solves.{Runs}
use Rattle.promises.specs.Causes.{last_in, before_last}
use Rattle.promises.specs.Marks.{marked, number_at}
use Rattle.promises.specs.Grounding.{Carries, Entered, GnBefore, SixShown}
use Rattle.promises.specs.Statements.{UnmarkedAtStart, MarkHasEntry, MarkIsShown, SixWasGrounded, SixIsShown}
use Rattle.promises.proofs.Never.{never}
use Rattle.promises.proofs.Repairs.{ways, trial_refuses, grounded_only}
use Rattle.promises.proofs.Trials.{solve_each_state}
use Rattle.promises.proofs.EachEntry.{solve_each_entry}
use Rattle.promises.proofs.Bound.{start_room}
use Rattle.promises.proofs.GroundedOnce as once
use Rattle.promises.proofs.Once as marks
use Rattle.promises.proofs.Counts.{has, shows, entry_shown, number_shown, gn_grounded, trials_are}
use Rattle.promises.proofs.Causes.{runs_a_trial, last_is, six_singular}
use Rattle.std.specs.Prelude.{Ok}

-- ---- the start

none_set : (n v : ℕ) → get_or (replicate n false) v false ≡ false
none_set zero v = refl
none_set (suc n) zero = refl
none_set (suc n) (suc v) = none_set n v

pub unmarked_at_start : UnmarkedAtStart
unfolding start_of
unmarked_at_start s l v = none_set 64 v

-- ---- a trial

module _ (s : List ℕ) (l : Layout) where
  -- a mark after a trial was there before it, or the trial's entry is its GN
  mark_comes : (p : Point) (v : ℕ) → get_or (trial_at s l p).state.grounded v false ≡ true
      → (get_or p.state.grounded v false ≡ true) ⊎ ((trial_at s l p).entry ≡ Grounded (record { 0 = v }))
  unfolding step_of
  mark_comes p v =
      ways s l p.damping p.state (λ o. get_or o.state.grounded v false ≡ true → (get_or p.state.grounded v false ≡ true) ⊎ (o.entry ≡ Grounded (record { 0 = v })))
      (λ j w h. inl h) (λ u w h. set_at u h (ℕ_discrete v u)) (λ u w h. inl h) (λ g y x h. inl h)
    where
      set_at : (u : ℕ) → get_or (set p.state.grounded u true) v false ≡ true → Dec (v ≡ u)
          → (get_or p.state.grounded v false ≡ true) ⊎ (◌≡◌ {A = Entry} (Grounded (record { 0 = u })) (Grounded (record { 0 = v })))
      set_at u h (yes e) = inr (ap (λ (i : ℕ). Grounded (record { 0 = i })) (sym e))
      set_at u h (no e) = inl (sym (get_or-set_other p.state.grounded u v true false e) ∙ h)

-- ---- a solve

module _ (s : List ℕ) (l : Layout) where
  start_carries : (v : ℕ) → Carries s l 0 v → get_or (start_of s l).grounded v false ≡ true
  unfolding point_in after_trials start_point
  start_carries v h = h

  later_entered : (i v : ℕ) → Entered s l i v → Entered s l (suc i) v
  later_entered i v w = record { entry = w.entry; earlier = omega (arith, w.earlier); is = w.is }

  entered : (i v : ℕ) → i ≤ length (run_in s l).entries → Carries s l i v → Entered s l i v
  entered zero v h c = never (sym (unmarked_at_start s l v) ∙ start_carries v c)
  entered (suc i) v h c =
      ⊎_elim
      (λ old. later_entered i v (entered i v (omega (arith, h)) old))
      (λ new. record { entry = i; earlier = omega arith; is = solve_each_entry s l i (omega (arith, h)) ∙ new })
      (mark_comes s l (point_in s l i) v (ap (λ (t : State). get_or t.grounded v false) (sym (solve_each_state s l i)) ∙ c))

  module _ (read : read_of s ≡ Ok l) where
    grounds-at : (j v : ℕ) → j < length (run_in s l).entries → get_or (run_in s l).entries j no_entry ≡ Grounded (record { 0 = v }) → Grounds s l (point_in s l j).state v
    grounds-at j v h e = grounded_only s l (point_in s l j).damping (point_in s l j).state (record { 0 = v }) (sym (solve_each_entry s l j h) ∙ e)

    carried : (i j v : ℕ) → j < i → Grounds s l (point_in s l j).state v → Carries s l i v
    unfolding point_in start_point
    carried i j v h g =
        let e : (i - suc j) + suc j ≡ i = omega arith in
        let set = marks.marked s l (network_of s l read).unknowns j (start_point s l) (start_room s l read) v g in
        ap (λ (c : ℕ). get_or (after_trials s l c (start_point s l)).state.grounded v false) (sym e)
        ∙ once.marks_stay s l (i - suc j) (suc j) (start_point s l) v set

-- Before each trial of a solve, and after its last, a node carries the mark exactly where an earlier entry is its GN.
pub mark_has_entry : MarkHasEntry
mark_has_entry s l read i v h = (entered s l i v h, λ w. carried s l read i w.entry v w.earlier (grounds-at s l read w.entry v (omega (arith, w.earlier, h)) w.is))

-- ---- the record's bytes

gn_has : (v : ℕ) → has 71 78 (Grounded (record { 0 = v })) ≡ true
unfolding has mark_of
gn_has v = refl

sg_has : (v : ℕ) → has 83 71 (Singular (record { 0 = v })) ≡ true
unfolding has mark_of
sg_has v = refl

pub gn_number : (v : NodeIndex) → (mark_of (Grounded v)).number ≡ v.0
unfolding mark_of
gn_number v = refl

sg_number : (v : NodeIndex) → (mark_of (Singular v)).number ≡ v.0
unfolding mark_of
sg_number v = refl

module _ (s : List ℕ) (x : Lent) (l : Layout) (w : Runs s x l) where
  bytes_of : (i : ℕ) → i < length (run_in s l).entries → (a b : ℕ) (e : Entry) → get_or (run_in s l).entries i no_entry ≡ e
      → (marked a b (solve_of s x).lent.entries i ≡ has a b e) × (number_at (solve_of s x).lent.entries i ≡ (mark_of e).number)
  bytes_of i h a b e is = (
    shows (solve_of s x).lent.entries i (get_or (run_in s l).entries i no_entry) (entry_shown s x l w i h) a b ∙ ap (has a b) is,
    number_shown s x l w i h ∙ ap (λ (y : Entry). (mark_of y).number) is,
  )

  gn_before : (i v : ℕ) → i ≤ length (run_in s l).entries → Entered s l i v → GnBefore (solve_of s x).lent.entries i v
  gn_before i v h e =
      let b = bytes_of e.entry (omega (arith, e.earlier, h)) 71 78 (Grounded (record { 0 = v })) e.is in
      record { entry = e.entry; earlier = e.earlier; mark = b.0 ∙ gn_has v; number = b.1 ∙ gn_number (record { 0 = v }) }

  entered_by : (i v : ℕ) → i ≤ length (run_in s l).entries → GnBefore (solve_of s x).lent.entries i v → Entered s l i v
  entered_by i v h b =
      let below : b.entry < length (run_in s l).entries = omega (arith, b.earlier, h) in
      let g = gn_grounded s x l w b.entry below b.mark in
      let n : g.0.0 ≡ v = sym ((bytes_of b.entry below 71 78 (Grounded g.0) g.1).1 ∙ gn_number g.0) ∙ b.number in
      record { entry = b.entry; earlier = b.earlier; is = g.1 ∙ ap (λ (k : ℕ). Grounded (record { 0 = k })) n }

-- The same by the bytes of the record.
pub mark_is_shown : MarkIsShown
mark_is_shown s x l w i v h =
    let few : i ≤ length (run_in s l).entries = omega (arith, h, trials_are s x l w) in
    let m = mark_has_entry s l w.read i v few in
    (λ c. gn_before s x l w i v few (m.0 c), λ b. m.1 (entered_by s x l w i v few b))

-- ---- 6

six_entered : (s : List ℕ) (x : Lent) (l : Layout) → Runs s x l → (v : ℕ) → get_or (before_last s l).state.grounded v false ≡ true → Entered s l (length (run_in s l).entries - 1) v
unfolding before_last
six_entered s x l w v h = entered s l (length (run_in s l).entries - 1) v (omega arith) h

-- 6 names a node whose GN is an entry before the last,
pub six_was_grounded : SixWasGrounded
six_was_grounded s x n = let r = six_singular s x n in (r.0, (r.1.0, six_entered s x r.0 r.1.0 (solve_of s x).answer.place r.1.1.already))

module _ (s : List ℕ) (x : Lent) (l : Layout) (w : Runs s x l) where
  last_at : (e : Entry) → last_in s l ≡ e → get_or (run_in s l).entries (length (run_in s l).entries - 1) no_entry ≡ e
  unfolding last_in
  last_at e h = h

  six_shown : Refuses s l (before_last s l).state (solve_of s x).answer.place → SixShown (solve_of s x)
  six_shown f =
      let v = (solve_of s x).answer.place in
      let bytes = (solve_of s x).lent.entries in
      let q : (solve_of s x).answer.trials - 1 ≡ length (run_in s l).entries - 1 = omega (arith, trials_are s x l w) in
      let last = last_at (Singular (record { 0 = v })) (last_is s x l w ∙ ap (λ (o : Outcome). o.entry) (trial_refuses s l (before_last s l).damping (before_last s l).state v f)) in
      let b = bytes_of s x l w (length (run_in s l).entries - 1) (omega (arith, trials_are s x l w, runs_a_trial s x l w)) 83 71 (Singular (record { 0 = v })) last in
      record {
        mark = ap (λ (i : ℕ). marked 83 71 bytes i) q ∙ b.0 ∙ sg_has v;
        number = ap (λ (i : ℕ). number_at bytes i) q ∙ b.1 ∙ sg_number (record { 0 = v });
        grounding = subst (λ (i : ℕ). GnBefore bytes i v) (sym q) (gn_before s x l w (length (run_in s l).entries - 1) v (omega arith) (six_entered s x l w v f.already));
      }

-- and its GN and its SG stand in the record.
pub six_is_shown : SixIsShown
six_is_shown s x n = let r = six_singular s x n in six_shown s x r.0 r.1.0 r.1.1
