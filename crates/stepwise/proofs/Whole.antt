-- Calls from the start come to the whole solve: what is left to run, from the state and the buffers as they stand, gives what the whole run gives. Assumes nothing.
use Prim.Native.Nat.{ℕ, zero, suc, ◌+◌, ◌-◌, ◌≤◌, ◌<◌}
use mathlib.Core.Path.{◌≡◌, refl, sym, ap, subst, ◌∙◌}
use mathlib.Core.List.{List, ◌++◌}
use mathlib.Core.Bool.{Bool, true, false, cond, ◌&&◌}
use native.Mathlib.Omega.{arith}
use native.Mathlib.Nat.{sub-zero}
use borrow.Author.Tests.{leb-true, ltb-true, ltb-false}
use lib.Dec.{leb, ltb}
use lib.ListN.{length, drop, length-append, length-drop}
use lib.Seq.{drop_at}
use lib.Ieee.{Float, lt, le}
use Rattle.records.specs.Records.{byte_at, pair_at, options_of}
use Rattle.patterns.specs.Bytes.{from_bytes}
use Rattle.fields.specs.Fields.{base_bounds, null, all_within, options_good}
use Rattle.fields.specs.declared.fields.Bounds.{Bounds}
use Rattle.sheet.specs.Read.{read_of}
use Rattle.sheet.proofs.Laws.{and_left, and_right}
use Rattle.accepted.proofs.Accepts.{accepts}
use Rattle.layout.specs.declared.places.Layout.{Layout}
use Rattle.damping.specs.declared.steps.Damping.{Damping}
use Rattle.columns.specs.Columns.{zeros}
use Rattle.columns.proofs.Laws.{zeros_long}
use Rattle.state.specs.State.{State}
use Rattle.trial.specs.Trial.{Repair, trial_with}
use Rattle.entries.specs.Entries.{damping_start, none, Going}
use Rattle.entries.specs.declared.Ended.{Ended}
use Rattle.entries.specs.declared.Ended.TheVariants.{Balanced, Failed, Strayed, Limit}
use Rattle.entries.specs.declared.Tally.{Tally}
use Rattle.marks.specs.Marks.{mark_of}
use Rattle.marks.proofs.Laws.{put_long}
use Rattle.runs.specs.Run.{Turned, turn_of, Finished, run_with, finish}
use Rattle.runs.proofs.Laws.{Counts, turn_counts, run_on, run_over, run_limit}
use Rattle.answers.specs.Answers.{Lent, lent, Solved, Enough, failed_of}
use Rattle.answers.specs.declared.Answer.{Answer}
use Rattle.conclusion.specs.Conclusion.{emptied, told, unsolved, delivered}
use Rattle.solver.specs.Solve.{trials_of, start_of, run_of, solved_with, after_short, after_read, solve_with}
use Rattle.held.specs.declared.Told.TheVariants.{More}
use Rattle.held.specs.Held.{Held, state_in, damping_in, tally_in, counts_of, held_of, more, answered}
use Rattle.turns.specs.Turns.{due, follows, next_turn}
use Rattle.turns.proofs.Laws.{Due, due_is, is_due, follow_on, follow_limit, follow_over}
use Rattle.held_start.specs.Start.{start_read, start_held}
use Rattle.stepping.specs.Taking.{Took, unchanged, over, after_turn, take_with}
use Rattle.stepwise.specs.Stepwise.{Went, onward, go_on, Whole}
use Rattle.stepwise.proofs.Calls.{damping_back, state_back, tally_back, told_tally, enough_so, turned, takes}
use Rattle.std.specs.Prelude.{Ok}
use Rattle.std.proofs.Common.{Break, Continue}

-- ---- of the sheet: at least one trial is allowed

some_trial : (b : Bounds) (s : List ℕ) → options_good b s ≡ true → 1 ≤ pair_at s 26
unfolding options_good
some_trial b s h =
    let f = all_within b 3 s 2 && lt null (from_bytes s 2) && le null (from_bytes s 10) && le null (from_bytes s 18) in
    let g = leb 1 (pair_at s 26) in
    let m = leb (pair_at s 26) b.trials in
    leb-true 1 (pair_at s 26) (and_right f g (and_left (f && g) m (and_left (f && g && m) (leb (byte_at s 28) b.unit) h)))

some_trials : (s : List ℕ) (l : Layout) → read_of s ≡ Ok l → 1 ≤ trials_of s
unfolding read_of base_bounds options_of
some_trials s l h = some_trial base_bounds s (accepts base_bounds s l h).options

-- ---- of the buffers: what a call before left does not matter

emptied_twice : (x : List Float) → emptied (emptied x) ≡ emptied x
unfolding emptied
emptied_twice x = ap (λ (y : List Float). zeros 4096 ++ y) (drop_at (zeros 4096) (drop 4096 x) 4096 (zeros_long 4096))

emptied_long : (x : List Float) → 4096 ≤ length x → length (emptied x) ≡ length x
unfolding emptied
emptied_long x h = omega (arith, length-append (zeros 4096) (drop 4096 x), zeros_long 4096, length-drop 4096 x)

-- the buffers after a call that tells of more
abbrev later : Lent → List ℕ → Lent
later b r = lent b.heads b.demands b.flows b.statuses r (emptied b.scratch)

told_later : (s : List ℕ) (l : Layout) (trials : ℕ) (b : Lent) (r : List ℕ) (t : State) (tally : Tally) (bytes : List ℕ) (z : Ended)
    → told s l trials (later b r) t tally bytes z ≡ told s l trials b t tally bytes z
unfolding told delivered unsolved
told_later s l trials b r t tally bytes Balanced = rw (emptied_twice b.scratch)
told_later s l trials b r t tally bytes (Failed i) = rw (emptied_twice b.scratch)
told_later s l trials b r t tally bytes (Strayed p) = rw (emptied_twice b.scratch)
told_later s l trials b r t tally bytes Limit = rw (emptied_twice b.scratch)

later_enough : (l : Layout) (trials : ℕ) (b : Lent) (r : List ℕ) → length r ≡ length b.entries → Enough l trials b → Enough l trials (later b r)
later_enough l trials b r e w =
    record {
      heads = w.heads;
      demands = w.demands;
      flows = w.flows;
      statuses = w.statuses;
      entries = omega (arith, w.entries);
      scratch = omega (arith, w.scratch, emptied_long b.scratch w.scratch);
    }

-- ---- the calls

module _ (repair : Repair) (s : List ℕ) (l : Layout) (good : read_of s ≡ Ok l) where
  -- what is left to run from what is held, and how its end is told
  abbrev ending : Held → Lent → Finished
  ending h b =
      let tally = tally_in h.counts in
      finish tally.trials tally b.entries (run_with repair s l (trials_of s - tally.trials) (damping_in h.sums) (state_in h))

  abbrev told_of : Lent → Finished → Solved
  told_of b f = told s l (trials_of s) b f.state f.ran.tally f.bytes f.ran.ended

  -- calls w from a state that has counted i trials come to the end f
  record Comes (i : ℕ) (b : Lent) (f : Finished) (w : Went) : Type 0 where
    taken : w.last.taken ≡ answered (told_of b f).answer
    lent : w.last.lent ≡ (told_of b f).lent
    calls : w.calls + i ≡ f.ran.tally.trials

  -- one turn, with its end z
  abbrev end_of : Turned → Ended → Finished
  end_of u z = record { ran = record { ended = z; tally = u.turn.tally }; bytes = u.bytes; state = u.state }

  last_call : (i : ℕ) (d : Damping) (b : Lent) (u : Turned) (z : Ended) (next : Held → Lent → Went) → u.turn.tally.trials ≡ i + 1
      → Comes i b (end_of u z) (onward (after_turn s l (trials_of s) d b u (Break z)) next)
  unfolding onward after_turn
  last_call i d b u z next e = record { taken = refl; lent = refl; calls = omega arith }

  one_more : (i : ℕ) (d next : Damping) (b : Lent) (u : Turned) (f : Finished) (go : Held → Lent → Went) → u.turn.tally.trials ≡ i + 1
      → Comes u.turn.tally.trials (later b u.bytes) f (go (held_of u.state next (more u.turn.tally)) (later b u.bytes))
      → Comes i b f (onward (after_turn s l (trials_of s) d b u (Continue next)) go)
  unfolding onward after_turn
  one_more i d next b u f go e w =
      let same = told_later s l (trials_of s) b u.bytes f.state f.ran.tally f.bytes f.ran.ended in
      record { taken = w.taken ∙ ap (λ (o : Solved). answered o.answer) same; lent = w.lent ∙ ap (λ (o : Solved). o.lent) same; calls = omega (arith, w.calls) }

  -- what is held after a call that tells of more has as much left to run
  after_of : Damping → Turned → Held
  after_of next u = held_of u.state next (more u.turn.tally)

  after_tally : (next : Damping) (u : Turned) → tally_in (after_of next u).counts ≡ u.turn.tally
  unfolding after_of held_of failed_of
  after_tally next u = tally_back More (failed_of 0 0 u.turn.tally)

  after_damping : (next : Damping) (u : Turned) → damping_in (after_of next u).sums ≡ next
  unfolding after_of held_of
  after_damping next u = damping_back next (failed_of 0 0 u.turn.tally)

  after_state : (next : Damping) (u : Turned) → state_in (after_of next u) ≡ u.state
  unfolding after_of
  after_state next u = state_back u.state next More (failed_of 0 0 u.turn.tally)

  after_ending : (next : Damping) (u : Turned) (b : Lent)
      → ending (after_of next u) (later b u.bytes) ≡ finish u.turn.tally.trials u.turn.tally u.bytes (run_with repair s l (trials_of s - u.turn.tally.trials) next u.state)
  after_ending next u b =
      let from : Tally → Damping → State → Finished = λ tally d t. finish tally.trials tally u.bytes (run_with repair s l (trials_of s - tally.trials) d t) in
      let h = after_of next u in
      ap (λ (x : Tally). from x (damping_in h.sums) (state_in h)) (after_tally next u) ∙ ap (λ (x : Damping). from u.turn.tally x (state_in h)) (after_damping next u)
      ∙ ap (λ (x : State). from u.turn.tally next x) (after_state next u)

  module _ (h : Held) (b : Lent) (u : Turned) (turn : u ≡ turn_of repair s l (damping_in h.sums) (tally_in h.counts) b.entries (state_in h))
      (w : Due (trials_of s) (tally_in h.counts)) (go : Held → Lent → Went) where
    abbrev start : ℕ
    start = (tally_in h.counts).trials

    abbrev next-call : Going → Went
    next-call g = onward (after_turn s l (trials_of s) (damping_in h.sums) b u g) go

    counts_of_lem : Counts (tally_in h.counts) u.turn.tally
    counts_of_lem = turn_counts repair s l 0 (damping_in h.sums) (tally_in h.counts) b.entries (state_in h) u turn

    over-call : (z : Ended) → u.turn.going ≡ Break z → Comes start b (ending h b) (next-call (follows (trials_of s) u.turn.tally u.turn.going))
    over-call z e =
        subst (λ (f : Finished). Comes start b f (next-call (follows (trials_of s) u.turn.tally u.turn.going)))
        (run_over repair s l (trials_of s) (damping_in h.sums) (tally_in h.counts) b.entries (state_in h) u z w.more turn e)
        (subst (λ (g : Going). Comes start b (end_of u z) (next-call g)) (follow_over (trials_of s) u.turn.tally u.turn.going z e)
        (last_call start (damping_in h.sums) b u z go counts_of_lem.trials))

    -- the rest of the run
    rest : (next : Damping) → u.turn.going ≡ Continue next
        → finish u.turn.tally.trials u.turn.tally u.bytes (run_with repair s l (trials_of s - u.turn.tally.trials) next u.state) ≡ ending h b
    rest next e = run_on repair s l (trials_of s) (damping_in h.sums) (tally_in h.counts) b.entries (state_in h) u next w.more turn e

    limit-call : (next : Damping) → u.turn.going ≡ Continue next → trials_of s ≤ u.turn.tally.trials
        → Comes start b (ending h b) (next-call (follows (trials_of s) u.turn.tally u.turn.going))
    limit-call next e m =
        subst (λ (f : Finished). Comes start b f (next-call (follows (trials_of s) u.turn.tally u.turn.going)))
        (run_limit repair s l (trials_of s) next u.turn.tally u.bytes u.state m ∙ rest next e)
        (subst (λ (g : Going). Comes start b (end_of u Limit) (next-call g)) (follow_limit (trials_of s) u.turn.tally u.turn.going next e m)
        (last_call start (damping_in h.sums) b u Limit go counts_of_lem.trials))

    more-call : (next : Damping) → u.turn.going ≡ Continue next → u.turn.tally.trials < trials_of s
        → Comes (tally_in (after_of next u).counts).trials (later b u.bytes) (ending (after_of next u) (later b u.bytes)) (go (after_of next u) (later b u.bytes))
        → Comes start b (ending h b) (next-call (follows (trials_of s) u.turn.tally u.turn.going))
    unfolding after_of
    more-call next e m c =
        let from : Comes u.turn.tally.trials (later b u.bytes) (ending (after_of next u) (later b u.bytes)) (go (after_of next u) (later b u.bytes)) =
        subst (λ (x : Tally). Comes x.trials (later b u.bytes) (ending (after_of next u) (later b u.bytes)) (go (after_of next u) (later b u.bytes))) (after_tally next u) c in
        subst (λ (g : Going). Comes start b (ending h b) (next-call g)) (follow_on (trials_of s) u.turn.tally u.turn.going next e m)
        (one_more start (damping_in h.sums) next b u (ending h b) go counts_of_lem.trials
        (subst (λ (f : Finished). Comes u.turn.tally.trials (later b u.bytes) f (go (after_of next u) (later b u.bytes))) (after_ending next u b ∙ rest next e) from))

    after-due : (next : Damping) → u.turn.tally.trials < trials_of s → due (trials_of s) (tally_in (after_of next u).counts) ≡ true
    after-due next m =
        rw (after_tally next u)
        (is_due (trials_of s) u.turn.tally (record { more = m; freed = omega (arith, counts_of_lem, w.freed); grounded = omega (arith, counts_of_lem, w.grounded) }))

  -- a turn keeps the record's length
  turn_long : (d : Damping) (tally : Tally) (r : List ℕ) (t : State) → length (turn_of repair s l d tally r t).bytes ≡ length r
  unfolding turn_of
  turn_long d tally r t = put_long r tally.trials (mark_of (trial_with repair s l d t).entry)

  -- a state with n trials left, before the answer, and buffers that are enough
  record Ready (n : ℕ) (h : Held) (b : Lent) : Type 0 where
    enough : Enough l (trials_of s) b
    first : over h ≡ false
    due : due (trials_of s) (tally_in h.counts) ≡ true
    left : trials_of s - (tally_in h.counts).trials ≡ n

  abbrev turn_of_lem : Held → Lent → Turned
  turn_of_lem h b = turn_of repair s l (damping_in h.sums) (tally_in h.counts) b.entries (state_in h)

  after_ready : (n : ℕ) (h : Held) (b : Lent) (next : Damping) → Ready (suc n) h b → (turn_of_lem h b).turn.tally.trials < trials_of s
      → Ready n (after_of next (turn_of_lem h b)) (later b (turn_of_lem h b).bytes)
  unfolding over after_of held_of counts_of
  after_ready n h b next r m =
      let u = turn_of_lem h b in
      let w = due_is _ _ r.due in
      let k = counts_of_lem h b u refl w (λ h' b'. record { calls = 0; last = unchanged (more none) h' b' }) in
      record {
        enough = later_enough l (trials_of s) b u.bytes (turn_long (damping_in h.sums) (tally_in h.counts) b.entries (state_in h)) r.enough;
        first = refl;
        due = after-due h b u refl w (λ h' b'. record { calls = 0; last = unchanged (more none) h' b' }) next m;
        left = rw (after_tally next u) (omega (arith, r.left, k));
      }

  module _ (n : ℕ) (h : Held) (b : Lent) (r : Ready (suc n) h b) (ih : (h' : Held) (b' : Lent) → Ready n h' b' → Comes (tally_in h'.counts).trials b' (ending h' b') (go_on repair s n h' b')) where
    abbrev this-call : Type 0
    this-call =
        let u = turn_of_lem h b in
        Comes (tally_in h.counts).trials b (ending h b) (onward (after_turn s l (trials_of s) (damping_in h.sums) b u (follows (trials_of s) u.turn.tally u.turn.going)) (go_on repair s n))

    by-limit : (next : Damping) → (turn_of_lem h b).turn.going ≡ Continue next → (x : Bool) → ltb (turn_of_lem h b).turn.tally.trials (trials_of s) ≡ x → this-call
    by-limit next p true q =
        let m = ltb-true _ _ q in
        more-call h b (turn_of_lem h b) refl (due_is _ _ r.due) (go_on repair s n) next p m (ih _ _ (after_ready n h b next r m))
    by-limit next p false q = limit-call h b (turn_of_lem h b) refl (due_is _ _ r.due) (go_on repair s n) next p (ltb-false _ _ q)

    by-going : (g : Going) → (turn_of_lem h b).turn.going ≡ g → this-call
    by-going (Break z) p = over-call h b (turn_of_lem h b) refl (due_is _ _ r.due) (go_on repair s n) z p
    by-going (Continue next) p = by-limit next p (ltb (turn_of_lem h b).turn.tally.trials (trials_of s)) refl

  comes : (n : ℕ) (h : Held) (b : Lent) → Ready n h b → Comes (tally_in h.counts).trials b (ending h b) (go_on repair s n h b)
  unfolding go_on
  comes zero h b r = let w = due_is _ _ r.due in absurd (omega (arith, w.more, r.left))
  comes (suc n) h b r =
      subst (λ (o : Took). Comes (tally_in h.counts).trials b (ending h b) (onward o (go_on repair s n))) (sym (takes repair s l h b good r.enough r.first r.due))
      (by-going n h b r (comes n) (turn_of_lem h b).turn.going refl)

-- ---- from the start

module _ (repair : Repair) (s : List ℕ) (l : Layout) (was : Held) (b : Lent) (good : read_of s ≡ Ok l) (enough : Enough l (trials_of s) b) where
  abbrev first : Held
  first = held_of (start_of s l) damping_start (more none)

  started : (start_held s was).held ≡ first
  unfolding start_held start_read
  started = rw good

  first_tally : tally_in first.counts ≡ none
  unfolding held_of failed_of
  first_tally = tally_back More (failed_of 0 0 none)

  first_damping : damping_in first.sums ≡ damping_start
  unfolding held_of
  first_damping = damping_back damping_start (failed_of 0 0 none)

  ready : Ready repair s l good (trials_of s) first b
  unfolding over held_of counts_of
  ready =
      record {
        enough = enough;
        first = refl;
        due = rw first_tally (is_due (trials_of s) none (record { more = some_trials s l good; freed = omega arith; grounded = omega arith }));
        left = rw (first_tally, sub-zero);
      }

  -- what is left to run is the whole run
  from_start : ending repair s l good first b ≡ run_of repair s l b.entries
  unfolding run_of
  from_start =
      let from : Tally → Damping → State → Finished = λ tally d t. finish tally.trials tally b.entries (run_with repair s l (trials_of s - tally.trials) d t) in
      let all : from none damping_start (start_of s l) ≡ run_of repair s l b.entries = rw sub-zero in
      ap (λ (x : Tally). from x (damping_in first.sums) (state_in first)) first_tally ∙ ap (λ (x : Damping). from none x (state_in first)) first_damping
      ∙ ap (λ (x : State). from none damping_start x) (state_back (start_of s l) damping_start More (failed_of 0 0 none)) ∙ all

  abbrev solved : Solved
  solved = let f = run_of repair s l b.entries in told s l (trials_of s) b f.state f.ran.tally f.bytes f.ran.ended

  solves : solve_with repair s b ≡ solved
  unfolding solve_with after_read after_short solved_with
  solves = rw (good, enough_so l (trials_of s) b enough)

  all_calls : Comes repair s l good 0 b (run_of repair s l b.entries) (go_on repair s (trials_of s) first b)
  all_calls =
      subst (λ (x : Tally). Comes repair s l good x.trials b (run_of repair s l b.entries) (go_on repair s (trials_of s) first b)) first_tally
      (subst (λ (f : Finished). Comes repair s l good (tally_in first.counts).trials b f (go_on repair s (trials_of s) first b)) from_start
      (comes repair s l good (trials_of s) first b ready))

pub whole : Whole
whole repair s l was b good enough =
    let c = all_calls repair s l was b good enough in
    let o = sym (solves repair s l was b good enough) in
    let f = run_of repair s l b.entries in
    let w = go_on repair s (trials_of s) (first repair s l was b good enough) b in
    let same : go_on repair s (trials_of s) (start_held s was).held b ≡ w = ap (λ (h : Held). go_on repair s (trials_of s) h b) (started repair s l was b good enough) in
    let counted : w.calls ≡ f.ran.tally.trials = omega (arith, c.calls) in (
      ap (λ (x : Went). x.last.taken) same ∙ c.taken ∙ ap (λ (x : Solved). answered x.answer) o,
      ap (λ (x : Went). x.last.lent) same ∙ c.lent ∙ ap (λ (x : Solved). x.lent) o,
      ap (λ (x : Went). x.calls) same ∙ counted ∙ sym (ap (λ (x : Tally). x.trials) (told_tally s l (trials_of s) b f.state f.ran.tally f.bytes f.ran.ended)) ∙ ap (λ (x : Solved). x.answer.trials) o,
    )
