-- Demand 1: each number and place is told for its one cause, and in no other case. Assumes nothing.
use Prim.Native.Nat.{ℕ, zero, suc, ◌-◌, ◌≤◌, ◌<◌}
use mathlib.Core.Path.{◌≡◌, refl, sym, ap, ◌∙◌}
use mathlib.Core.List.{List, [], ◌∷◌}
use mathlib.Core.Bool.{true, ◌&&◌}
use mathlib.Core.Logic.{◌⊎◌, inl, inr, ⊎_elim}
use native.Mathlib.Omega.{arith}
use lib.ListN.{length, get_or}
use lib.Dec.{leb}
use lib.Ieee.{lt, le}
use borrow.Author.Tests.{leb-true}
use Rattle.patterns.specs.Bytes.{from_bytes}
use Rattle.records.specs.Records.{byte_at, pair_at, options_of}
use Rattle.fields.specs.Fields.{base_bounds, null, all_within, options_good}
use Rattle.fields.specs.declared.fields.Bounds.{Bounds}
use Rattle.sheet.proofs.Laws.{and_left, and_right}
use Rattle.refusals.specs.Refusals.{number_of, place_of}
use Rattle.refusals.specs.declared.refusals.Refusal.{Refusal}
use Rattle.refusals.specs.declared.refusals.Refusal.TheVariants.{Unreadable, NodeCount, LinkCount, Field, Ends}
use Rattle.sheet.specs.Read.{read_of, Reading}
use Rattle.layout.specs.declared.places.Layout.{Layout}
use Rattle.accepted.specs.Accepted.{cause_of, number_in}
use Rattle.accepted.proofs.Accepts.{cause, accepts}
use Rattle.nodes.specs.declared.NodeIndex.{NodeIndex}
use Rattle.state.specs.State.{State}
use Rattle.damping.specs.declared.steps.Damping.{Damping}
use Rattle.entries.specs.declared.Entry.{Entry}
use Rattle.entries.specs.declared.Entry.TheVariants.{Freed, Grounded, Singular, Wild, Stepped, Converged}
use Rattle.trial.specs.Trial.{Outcome, repair_of}
use Rattle.entries.specs.Entries.{going_of, none, tallied, no_entry, Going}
use Rattle.marks.specs.Marks.{written}
use Rattle.entries.specs.declared.Ended.{Ended}
use Rattle.entries.specs.declared.Ended.TheVariants.{Balanced, Failed, Strayed, Limit}
use Rattle.entries.specs.declared.Tally.{Tally}
use Rattle.runs.specs.Run.{then_run, run_with}
use Rattle.answers.specs.Answers.{Lent, Solved, failed_of, refused_of}
use Rattle.conclusion.specs.Conclusion.{unsolved, delivered, told}
use Rattle.solver.specs.Solve.{trials_of, after_short, after_read, solve_with, solve_of}
use Rattle.promises.specs.Repairs.{Refuses}
use Rattle.promises.specs.Trials.{Point, point, trial_at, run_at, start_point, run_in, point_in}
use Rattle.promises.specs.Solves.{short_in, Runs}
use Rattle.promises.specs.Causes.{end_number, end_place, Cause, sheet, short, ended, end_by, EndsBy, last_in, before_last}
use Rattle.promises.specs.Statements.{ToldOfCause, CauseOfTold, RefusedBySheet, SheetOnly, SolveEndsBy, RunsATrial, ZeroConverged, SixSingular, SevenWild, EightLimit}
use Rattle.promises.proofs.Never.{other}
use Rattle.promises.proofs.Repairs.{refused_only}
use Rattle.promises.proofs.Trials.{solve_each_state, solve_last_state}
use Rattle.promises.proofs.EachEntry.{solve_each_entry}
use Rattle.promises.proofs.Solves.{comes, ways, tells}
use Rattle.promises.proofs.Counts.{trials_are}
use Rattle.std.specs.Prelude.{Err, Ok, Some}
use Rattle.std.proofs.Common.{Break, Continue}
use Rattle.causes.specs.Causes.{Flip}

module _ (s : List ℕ) (l : Layout) (m : ℕ) (x : Lent) (t : State) (tally : Tally) (bytes : List ℕ) where
  told_number : (z : Ended) → (told s l m x t tally bytes z).answer.number ≡ end_number z
  unfolding told delivered unsolved failed_of end_number
  told_number Balanced = refl
  told_number (Failed v) = refl
  told_number (Strayed p) = refl
  told_number Limit = refl

  told_place : (z : Ended) → (told s l m x t tally bytes z).answer.place ≡ end_place m z
  unfolding told delivered unsolved failed_of end_place
  told_place Balanced = refl
  told_place (Failed v) = refl
  told_place (Strayed p) = refl
  told_place Limit = refl

module _ (s : List ℕ) (x : Lent) where
  by_sheet : (r : Refusal) → read_of s ≡ Err r → solve_of s x ≡ refused_of (number_of r) (place_of r) x
  unfolding solve_with after_read
  by_sheet r e = rw e

  by_buffer : (l : Layout) (place : ℕ) → read_of s ≡ Ok l → short_in s l x ≡ Some place → solve_of s x ≡ refused_of 5 place x
  unfolding solve_with after_read after_short short_in
  by_buffer l place e q = rw (e, q)

  refused_number : (number place : ℕ) → solve_of s x ≡ refused_of number place x → ((solve_of s x).answer.number ≡ number) × ((solve_of s x).answer.place ≡ place)
  unfolding refused_of failed_of
  refused_number number place e = (ap (λ (o : Solved). o.answer.number) e, ap (λ (o : Solved). o.answer.place) e)

  by_end : (l : Layout) → Runs s x l → ((solve_of s x).answer.number ≡ end_number (run_in s l).ended) × ((solve_of s x).answer.place ≡ end_place (trials_of s) (run_in s l).ended)
  by_end l w =
      let r = run_in s l in
      rw (comes repair_of s x l w, tells s l x) (
        told_number s l (trials_of s) x r.state (tallied none r.entries) (written 0 r.entries x.entries) r.ended,
        told_place s l (trials_of s) x r.state (tallied none r.entries) (written 0 r.entries x.entries) r.ended,
      )

-- Demand 1: a number and a place are told where they have their cause,
pub told_of_cause : ToldOfCause
told_of_cause s x number place (sheet r e) = refused_number s x (number_of r) (place_of r) (by_sheet s x r e)
told_of_cause s x number place (short l p e q) = refused_number s x 5 p (by_buffer s x l p e q)
told_of_cause s x number place (ended l w) = by_end s x l w

-- and in no other case.
pub cause_of_told : CauseOfTold
unfolding refused_of failed_of
cause_of_told s x =
    ways repair_of s x (λ o. Cause s x o.answer.number o.answer.place) sheet short
    (λ l w.
    let r = run_in s l in
    rw (
      tells s l x,
      told_number s l (trials_of s) x r.state (tallied none r.entries) (written 0 r.entries x.entries) r.ended,
      told_place s l (trials_of s) x r.state (tallied none r.entries) (written 0 r.entries x.entries) r.ended,
    )
    (ended l w))

-- ---- 1 to 4

sheet_number : (s : List ℕ) → number_in (read_of s) ≡ cause_of base_bounds s
unfolding read_of
sheet_number s = cause base_bounds s

pub least_one : (r : Refusal) → 1 ≤ number_of r
unfolding number_of
least_one (Unreadable p) = omega arith
least_one NodeCount = omega arith
least_one LinkCount = omega arith
least_one (Field p) = omega arith
least_one (Ends p) = omega arith

most_four : (r : Refusal) → number_of r ≤ 4
unfolding number_of
most_four (Unreadable p) = omega arith
most_four NodeCount = omega arith
most_four LinkCount = omega arith
most_four (Field p) = omega arith
most_four (Ends p) = omega arith

pub end_past : (z : Ended) → 1 ≤ end_number z → end_number z ≤ 5 → ⊥
unfolding end_number
end_past Balanced a b = omega arith
end_past (Failed v) a b = omega arith
end_past (Strayed p) a b = omega arith
end_past Limit a b = omega arith

-- the number and the place tell the end
same_end : (m : ℕ) (y z : Ended) → end_number y ≡ end_number z → end_place m y ≡ end_place m z → y ≡ z
unfolding end_number end_place
same_end m Balanced Balanced e f = refl
same_end m (Failed v) (Failed w) e f = ap (λ (i : ℕ). Failed (record { 0 = i })) f
same_end m (Strayed p) (Strayed q) e f = ap Strayed f
same_end m Limit Limit e f = refl
same_end m Balanced (Failed w) e f = absurd (let y : ⊥ = omega arith in y)
same_end m Balanced (Strayed q) e f = absurd (let y : ⊥ = omega arith in y)
same_end m Balanced Limit e f = absurd (let y : ⊥ = omega arith in y)
same_end m (Failed v) Balanced e f = absurd (let y : ⊥ = omega arith in y)
same_end m (Failed v) (Strayed q) e f = absurd (let y : ⊥ = omega arith in y)
same_end m (Failed v) Limit e f = absurd (let y : ⊥ = omega arith in y)
same_end m (Strayed p) Balanced e f = absurd (let y : ⊥ = omega arith in y)
same_end m (Strayed p) (Failed w) e f = absurd (let y : ⊥ = omega arith in y)
same_end m (Strayed p) Limit e f = absurd (let y : ⊥ = omega arith in y)
same_end m Limit Balanced e f = absurd (let y : ⊥ = omega arith in y)
same_end m Limit (Failed w) e f = absurd (let y : ⊥ = omega arith in y)
same_end m Limit (Strayed q) e f = absurd (let y : ⊥ = omega arith in y)

-- A sheet that has a cause of 1 to 4 is refused with that number,
pub refused_by_sheet : RefusedBySheet
refused_by_sheet s x h = go (read_of s) refl
  where
    go : (r : Reading) → read_of s ≡ r → (solve_of s x).answer.number ≡ cause_of base_bounds s
    go (Err r) e = (told_of_cause s x (number_of r) (place_of r) (sheet r e)).0 ∙ sym (ap number_in e) ∙ sheet_number s
    go (Ok l) e = let p : 0 ≡ cause_of base_bounds s = sym (ap number_in e) ∙ sheet_number s in absurd (let y : ⊥ = omega arith in y)

-- and these numbers are given in no other case.
pub sheet_only : SheetOnly
sheet_only s x a b = go (solve_of s x).answer.number (solve_of s x).answer.place (cause_of_told s x) a b
  where
    go : (n p : ℕ) → Cause s x n p → 1 ≤ n → n ≤ 4 → cause_of base_bounds s ≡ n
    go n p (sheet r e) a b = sym (sheet_number s) ∙ ap number_in e
    go n p (short l q e f) a b = absurd (let y : ⊥ = omega arith in y)
    go n p (ended l w) a b = absurd (end_past (run_in s l).ended a (omega arith))

module _ (s : List ℕ) (x : Lent) where
  -- ---- 5: the lowest buffer that is too short, for an accepted sheet
  pub short_only : (solve_of s x).answer.number ≡ 5 → (l : Layout) × ((read_of s ≡ Ok l) × (short_in s l x ≡ Some (solve_of s x).answer.place))
  short_only a = go (solve_of s x).answer.number (solve_of s x).answer.place (cause_of_told s x) a
    where
      go : (n p : ℕ) → Cause s x n p → n ≡ 5 → (l : Layout) × ((read_of s ≡ Ok l) × (short_in s l x ≡ Some p))
      go n p (sheet r e) a = absurd (let y : ⊥ = omega (arith, most_four r) in y)
      go n p (short l q e f) a = (l, (e, f))
      go n p (ended l w) a = absurd (end_past (run_in s l).ended (omega arith) (omega arith))

  -- ---- 0, 6, 7 and 8: the run ended so
  pub run_only : (z : Ended) → (solve_of s x).answer.number ≡ end_number z → (solve_of s x).answer.place ≡ end_place (trials_of s) z
      → (l : Layout) × (Runs s x l × ((run_in s l).ended ≡ z))
  run_only z a b = go (solve_of s x).answer.number (solve_of s x).answer.place (cause_of_told s x) a b
    where
      go : (n p : ℕ) → Cause s x n p → n ≡ end_number z → p ≡ end_place (trials_of s) z → (l : Layout) × (Runs s x l × ((run_in s l).ended ≡ z))
      go n p (sheet r e) a b = absurd (end_past z (omega (arith, least_one r)) (omega (arith, most_four r)))
      go n p (short l q e f) a b = absurd (end_past z (omega arith) (omega arith))
      go n p (ended l w) a b = (l, (w, same_end (trials_of s) (run_in s l).ended z a b))

-- ---- how a run ends

going_end : (d d' : Damping) (e : Entry) → going_of d e ≡ Continue d' → end_by e ≡ Limit
unfolding going_of end_by
going_end d d' (Freed i) h = refl
going_end d d' (Grounded i) h = refl
going_end d d' (Singular i) h = other (cc)
going_end d d' (Wild p) h = other (cc)
going_end d d' (Stepped x flip) h = refl
going_end d d' (Converged flip) h = other (cc)

over_end : (d : Damping) (z : Ended) (e : Entry) → going_of d e ≡ Break z → end_by e ≡ z
unfolding going_of end_by
over_end d z (Freed i) h = other (cc)
over_end d z (Grounded i) h = other (cc)
over_end d z (Singular i) h = cc
over_end d z (Wild p) h = cc
over_end d z (Stepped x flip) h = other (cc)
over_end d z (Converged flip) h = cc

over_limit : (d : Damping) (e : Entry) → going_of d e ≡ Break Limit → ⊥
unfolding going_of
over_limit d (Freed i) h = other (cc)
over_limit d (Grounded i) h = other (cc)
over_limit d (Singular i) h = other (cc)
over_limit d (Wild p) h = other (cc)
over_limit d (Stepped x flip) h = other (cc)
over_limit d (Converged flip) h = other (cc)

last_on : (e : Entry) (es : List Entry) (z : Ended) → 1 ≤ length es → z ≡ end_by (get_or es (length es - 1) no_entry) → z ≡ end_by (get_or (e ∷ es) (length (e ∷ es) - 1) no_entry)
last_on e es z h q =
    let p : length (e ∷ es) - 1 ≡ suc (length es - 1) = omega arith in
    rw p q

last_one : (e : Entry) → end_by (get_or (e ∷ []) (length (e ∷ []) - 1) no_entry) ≡ end_by e
last_one e = refl

module _ (s : List ℕ) (l : Layout) where
  last_of : (m : ℕ) (d d' : Damping) (e : Entry) (t : State) → going_of d e ≡ Continue d' → EndsBy m (run_with repair_of s l m d' t)
      → (run_with repair_of s l m d' t).ended ≡ end_by (get_or (e ∷ (run_with repair_of s l m d' t).entries) (length (e ∷ (run_with repair_of s l m d' t).entries) - 1) no_entry)
  unfolding run_with
  last_of zero d d' e t g w = sym (last_one e ∙ going_end d d' e g)
  last_of (suc m) d d' e t g w =
      let r = run_with repair_of s l (suc m) d' t in
      last_on e r.entries r.ended (w.some (omega arith)) (w.last (omega arith))

  -- A run ends as its last entry tells, every earlier entry is one after which it goes on, and the limit is told only where all allowed trials were taken.
  pub ends_by : (m : ℕ) (p : Point) → EndsBy m (run_at s l m p)
  unfolding run_with then_run
  ends_by zero p = record { some = λ h. h; last = λ h. absurd (let y : ⊥ = omega arith in y); on = λ i h. absurd (let y : ⊥ = omega arith in y); limit = λ h. refl }
  ends_by (suc m) p = go (trial_at s l p) (going_of p.damping (trial_at s l p).entry) refl (ends_by m)
    where
      go : (o : Outcome) (g : Going) → going_of p.damping o.entry ≡ g → ((p : Point) → EndsBy m (run_at s l m p)) → EndsBy (suc m) (then_run o.entry o.state g (run_with repair_of s l m))
      go o (Continue d') e ih =
          let w = ih (point d' o.state) in
          record {
            some = λ h. omega arith;
            last = λ h. last_of m p.damping d' o.entry o.state e w;
            on = onward w;
            limit = λ h. omega (arith, w.limit h);
          }
        where
          onward : EndsBy m (run_with repair_of s l m d' o.state) → (i : ℕ) → suc i < length (o.entry ∷ (run_with repair_of s l m d' o.state).entries)
              → end_by (get_or (o.entry ∷ (run_with repair_of s l m d' o.state).entries) i no_entry) ≡ Limit
          onward w zero h = going_end p.damping d' o.entry e
          onward w (suc i) h = w.on i (omega arith)
      go o (Break z) e ih =
          record {
            some = λ h. omega arith;
            last = λ h. sym (last_one o.entry ∙ over_end p.damping z o.entry e);
            on = λ i h. absurd (let y : ⊥ = omega arith in y);
            limit = λ h. absurd (over_limit p.damping o.entry (e ∙ ap Break h));
          }

-- Of the solve of any sheet: the number and the place, which are those of its end, are told by its last entry.
pub solve_ends_by : SolveEndsBy
unfolding run_in
solve_ends_by s l = ends_by s l (trials_of s) (start_point s l)

options_some : (b : Bounds) (s : List ℕ) → options_good b s ≡ true → 1 ≤ pair_at s 26
unfolding options_good
options_some b s h =
    let e = all_within b 3 s 2 && lt null (from_bytes s 2) && le null (from_bytes s 10) && le null (from_bytes s 18) in
    let f = leb 1 (pair_at s 26) in
    let g = leb (pair_at s 26) b.trials in
    leb-true 1 (pair_at s 26) (and_right e f (and_left (e && f) g (and_left (e && f && g) (leb (byte_at s 28) b.unit) h)))

some_trials : (s : List ℕ) (l : Layout) → read_of s ≡ Ok l → 1 ≤ trials_of s
unfolding read_of options_of
some_trials s l h = options_some base_bounds s (accepts base_bounds s l h).options

-- A solve that is not refused for its sheet or its buffers runs a trial.
pub runs_a_trial : RunsATrial
runs_a_trial s x l w = omega (arith, trials_are s x l w, (solve_ends_by s l).some (some_trials s l w.read))

-- ---- what the last trial came to

by_converged : (e : Entry) → end_by e ≡ Balanced → (flip : Flip) × (e ≡ Converged flip)
unfolding end_by
by_converged (Freed i) h = other (cc)
by_converged (Grounded i) h = other (cc)
by_converged (Singular i) h = other (cc)
by_converged (Wild p) h = other (cc)
by_converged (Stepped d flip) h = other (cc)
by_converged (Converged flip) h = (flip, refl)

by_failed : (v : NodeIndex) (e : Entry) → end_by e ≡ Failed v → e ≡ Singular v
unfolding end_by
by_failed v (Freed i) h = other (cc)
by_failed v (Grounded i) h = other (cc)
by_failed v (Singular i) h = cc
by_failed v (Wild p) h = other (cc)
by_failed v (Stepped d flip) h = other (cc)
by_failed v (Converged flip) h = other (cc)

by_strayed : (q : ℕ) (e : Entry) → end_by e ≡ Strayed q → e ≡ Wild q
unfolding end_by
by_strayed q (Freed i) h = other (cc)
by_strayed q (Grounded i) h = other (cc)
by_strayed q (Singular i) h = other (cc)
by_strayed q (Wild p) h = cc
by_strayed q (Stepped d flip) h = other (cc)
by_strayed q (Converged flip) h = other (cc)

module _ (s : List ℕ) (x : Lent) (l : Layout) (w : Runs s x l) where
  last_tells : (z : Ended) → (run_in s l).ended ≡ z → end_by (last_in s l) ≡ z
  unfolding last_in
  last_tells z e = sym ((solve_ends_by s l).last (some_trials s l w.read)) ∙ e

  -- The last entry is that of a trial of the state before it,
  pub last_is : last_in s l ≡ (trial_at s l (before_last s l)).entry
  unfolding last_in before_last
  last_is = solve_each_entry s l (length (run_in s l).entries - 1) (omega (arith, (solve_ends_by s l).some (some_trials s l w.read)))

  -- and the state that the run leaves is the one that this trial leaves.
  pub last_leaves : (run_in s l).state ≡ (trial_at s l (before_last s l)).state
  unfolding before_last
  last_leaves =
      let n = length (run_in s l).entries in
      let e : n ≡ suc (n - 1) = omega (arith, (solve_ends_by s l).some (some_trials s l w.read)) in
      solve_last_state s l ∙ ap (λ (i : ℕ). (point_in s l i).state) e ∙ solve_each_state s l (n - 1)

  at_converged : (z : Ended) → (run_in s l).ended ≡ z → end_number z ≡ 0 → (flip : Flip) × (last_in s l ≡ Converged flip)
  unfolding end_number
  at_converged Balanced e h = by_converged (last_in s l) (last_tells Balanced e)
  at_converged (Failed v) e h = absurd (let y : ⊥ = omega arith in y)
  at_converged (Strayed p) e h = absurd (let y : ⊥ = omega arith in y)
  at_converged Limit e h = absurd (let y : ⊥ = omega arith in y)

  at_failed : (z : Ended) → (run_in s l).ended ≡ z → end_number z ≡ 6 → Refuses s l (before_last s l).state (end_place (trials_of s) z)
  unfolding end_number end_place
  at_failed Balanced e h = absurd (let y : ⊥ = omega arith in y)
  at_failed (Failed v) e h = refused_only s l (before_last s l).damping (before_last s l).state v (sym last_is ∙ by_failed v (last_in s l) (last_tells (Failed v) e))
  at_failed (Strayed p) e h = absurd (let y : ⊥ = omega arith in y)
  at_failed Limit e h = absurd (let y : ⊥ = omega arith in y)

  at_strayed : (z : Ended) → (run_in s l).ended ≡ z → end_number z ≡ 7 → last_in s l ≡ Wild (end_place (trials_of s) z)
  unfolding end_number end_place
  at_strayed Balanced e h = absurd (let y : ⊥ = omega arith in y)
  at_strayed (Failed v) e h = absurd (let y : ⊥ = omega arith in y)
  at_strayed (Strayed p) e h = by_strayed p (last_in s l) (last_tells (Strayed p) e)
  at_strayed Limit e h = absurd (let y : ⊥ = omega arith in y)

  at_limit : (z : Ended) → (run_in s l).ended ≡ z → end_number z ≡ 8 → length (run_in s l).entries ≡ trials_of s
  unfolding end_number
  at_limit Balanced e h = absurd (let y : ⊥ = omega arith in y)
  at_limit (Failed v) e h = absurd (let y : ⊥ = omega arith in y)
  at_limit (Strayed p) e h = absurd (let y : ⊥ = omega arith in y)
  at_limit Limit e h = (solve_ends_by s l).limit e

-- a number of a run is told only where the run came to it
of_run : (s : List ℕ) (x : Lent) (P : Layout → ℕ → Type 0) (c : ℕ) → (c ≡ 0) ⊎ (6 ≤ c)
    → ((l : Layout) → Runs s x l → end_number (run_in s l).ended ≡ c → P l (end_place (trials_of s) (run_in s l).ended))
    → (solve_of s x).answer.number ≡ c → (l : Layout) × (Runs s x l × P l (solve_of s x).answer.place)
of_run s x P c low f a = go (solve_of s x).answer.number (solve_of s x).answer.place (cause_of_told s x) a
  where
    go : (n p : ℕ) → Cause s x n p → n ≡ c → (l : Layout) × (Runs s x l × P l p)
    go n p (sheet r e) a = absurd (let y : ⊥ = ⊎_elim (λ (q : c ≡ 0). omega (arith, least_one r)) (λ (q : 6 ≤ c). omega (arith, most_four r)) low in y)
    go n p (short l q e g) a = absurd (let y : ⊥ = ⊎_elim (λ (q : c ≡ 0). omega arith) (λ (q : 6 ≤ c). omega arith) low in y)
    go n p (ended l w) a = (l, (w, f l w a))

-- 0: the last trial converged.
pub zero_converged : ZeroConverged
zero_converged s x = of_run s x (λ l p. (flip : Flip) × (last_in s l ≡ Converged flip)) 0 (inl refl) (λ l w a. at_converged s x l w (run_in s l).ended refl a)

-- 6: the last trial's factorization stopped at the place, which no Active PRV or PSV touches and which is grounded already.
pub six_singular : SixSingular
six_singular s x = of_run s x (λ l p. Refuses s l (before_last s l).state p) 6 (inr (omega arith)) (λ l w a. at_failed s x l w (run_in s l).ended refl a)

-- 7: the last trial stepped to a head or flow at the place that is NaN, infinite or at least 2^64 in magnitude.
pub seven_wild : SevenWild
seven_wild s x = of_run s x (λ l p. last_in s l ≡ Wild p) 7 (inr (omega arith)) (λ l w a. at_strayed s x l w (run_in s l).ended refl a)

-- 8: every allowed trial was used up.
pub eight_limit : EightLimit
eight_limit s x = of_run s x (λ l p. length (run_in s l).entries ≡ trials_of s) 8 (inr (omega arith)) (λ l w a. at_limit s x l w (run_in s l).ended refl a)
