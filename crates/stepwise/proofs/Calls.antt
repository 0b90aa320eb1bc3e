-- One call: what it adds, that the answer is told again, that a refusal changes nothing. Assumes nothing.
use Prim.Native.Nat.{ℕ, ◌+◌, ◌*◌, ◌/◌, ◌%◌, ◌≤◌, ◌<◌}
use mathlib.Core.Path.{◌≡◌, refl, sym, ap, ◌∙◌}
use mathlib.Core.List.{List}
use mathlib.Core.Bool.{Bool, true, false, cond}
use mathlib.Core.Logic.{◌⊎◌, inl, inr, ⊎_elim}
use native.Mathlib.Omega.{arith}
use borrow.Author.Tests.{le-ltb}
use lib.Dec.{eqb}
use lib.ListN.{length, get_or, set}
use lib.Seq.{get_or-set_other}
use Rattle.sheet.specs.Read.{read_of, Reading}
use Rattle.layout.specs.declared.places.Layout.{Layout}
use Rattle.damping.specs.declared.steps.Damping.{Damping}
use Rattle.state.specs.State.{State}
use Rattle.trial.specs.Trial.{Repair, trial_with}
use Rattle.entries.specs.Entries.{counted, Going}
use Rattle.entries.specs.declared.Ended.{Ended}
use Rattle.entries.specs.declared.Ended.TheVariants.{Balanced, Failed, Strayed, Limit}
use Rattle.entries.specs.declared.Tally.{Tally}
use Rattle.marks.specs.Marks.{mark_of, put_of}
use Rattle.marks.specs.declared.Mark.{Mark}
use Rattle.runs.specs.Run.{Turned, turn_of}
use Rattle.answers.specs.Answers.{Lent, Enough, too_short, failed_of}
use Rattle.answers.specs.declared.Answer.{Answer}
use Rattle.conclusion.specs.Conclusion.{told, unsolved, delivered}
use Rattle.solver.specs.Solve.{trials_of}
use Rattle.held.specs.Held.{told_number, Held, state_in, damping_in, tally_in, answer_in, sums_of, counts_of, held_of, more, answered, refusal}
use Rattle.held.specs.declared.Told.{Told}
use Rattle.held.specs.declared.Told.TheVariants.{More, Answered, Refused}
use Rattle.held.specs.declared.Taken.{Taken}
use Rattle.held.proofs.Laws.{marks_back}
use Rattle.turns.specs.Turns.{due, follows, next_turn}
use Rattle.stepping.specs.Taking.{Took, unchanged, over, after_turn, take_turn, take_lent, take_read, take_with}
use Rattle.held_start.specs.Start.{start_read, start_held}
use Rattle.stepwise.specs.Stepwise.{Adds, EachTrial, OneOfThree, Tells, Repeats, Refuses, Short}
use Rattle.std.specs.Prelude.{Err, None, Ok, Option, Some}
use Rattle.std.proofs.Common.{Break, Continue}

-- ---- what is held comes back

pub damping_back : (d : Damping) (a : Answer) → damping_in (sums_of d a) ≡ d
unfolding damping_in sums_of
damping_back d a = refl

pub answer_back : (d : Damping) (a : Answer) → answer_in (sums_of d a) (counts_of (answered a)) ≡ a
unfolding answer_in sums_of counts_of
answer_back d a = refl

pub state_back : (t : State) (d : Damping) (how : Told) (a : Answer) → state_in (held_of t d (record { how = how; answer = a })) ≡ t
unfolding state_in held_of
state_back t d how a = rw (marks_back t.grounded)

-- an answer counts what the tally does
abbrev tallied_in : Answer → Tally
tallied_in a = record { trials = a.trials; freed = a.freed; grounded = a.grounded }

pub tally_back : (how : Told) (a : Answer) → tally_in (counts_of (record { how = how; answer = a })) ≡ tallied_in a
unfolding tally_in counts_of
tally_back how a = refl

pub told_tally : (s : List ℕ) (l : Layout) (trials : ℕ) (b : Lent) (t : State) (tally : Tally) (bytes : List ℕ) (z : Ended) → tallied_in (told s l trials b t tally bytes z).answer ≡ tally
unfolding told unsolved delivered failed_of
told_tally s l trials b t tally bytes Balanced = refl
told_tally s l trials b t tally bytes (Failed i) = refl
told_tally s l trials b t tally bytes (Strayed p) = refl
told_tally s l trials b t tally bytes Limit = refl

told_bytes : (s : List ℕ) (l : Layout) (trials : ℕ) (b : Lent) (t : State) (tally : Tally) (bytes : List ℕ) (z : Ended) → (told s l trials b t tally bytes z).lent.entries ≡ bytes
unfolding told unsolved delivered
told_bytes s l trials b t tally bytes Balanced = refl
told_bytes s l trials b t tally bytes (Failed i) = refl
told_bytes s l trials b t tally bytes (Strayed p) = refl
told_bytes s l trials b t tally bytes Limit = refl

-- ---- a trial is taken

-- what a call finds too short, and the turn that it takes
abbrev short_of : List ℕ → Layout → Lent → Option ℕ
short_of s l b = too_short l (trials_of s) (length b.heads) (length b.demands) (length b.flows) (length b.statuses) (length b.entries) (length b.scratch)

abbrev next_of : Repair → List ℕ → Layout → Held → Lent → Turned
next_of repair s l h b = next_turn repair s l (trials_of s) (damping_in h.sums) (tally_in h.counts) b.entries (state_in h)

pub enough_so : (l : Layout) (trials : ℕ) (b : Lent) → Enough l trials b
    → too_short l trials (length b.heads) (length b.demands) (length b.flows) (length b.statuses) (length b.entries) (length b.scratch) ≡ None
unfolding too_short
enough_so l trials b w = rw (le-ltb _ _ w.heads, le-ltb _ _ w.demands, le-ltb _ _ w.flows, le-ltb _ _ w.statuses, le-ltb _ _ w.entries, le-ltb _ _ w.scratch)

module _ (repair : Repair) (s : List ℕ) (l : Layout) (h : Held) (b : Lent) (good : read_of s ≡ Ok l) (enough : Enough l (trials_of s) b) (first : over h ≡ false) where
  -- the turn that a call takes
  abbrev pub turned : Turned
  turned = turn_of repair s l (damping_in h.sums) (tally_in h.counts) b.entries (state_in h)

  pub takes : due (trials_of s) (tally_in h.counts) ≡ true
      → take_with repair s h b ≡ after_turn s l (trials_of s) (damping_in h.sums) b turned (follows (trials_of s) turned.turn.tally turned.turn.going)
  unfolding take_with take_read take_lent take_turn next_turn
  takes e = rw (first, good, enough_so l (trials_of s) b enough, e)

after_entries : (s : List ℕ) (l : Layout) (trials : ℕ) (d : Damping) (b : Lent) (u : Turned) (g : Going) → (after_turn s l trials d b u g).lent.entries ≡ u.bytes
unfolding after_turn
after_entries s l trials d b u (Continue next) = refl
after_entries s l trials d b u (Break z) = told_bytes s l trials b u.state u.turn.tally u.bytes z

after_state : (s : List ℕ) (l : Layout) (trials : ℕ) (d : Damping) (b : Lent) (u : Turned) (g : Going) → state_in (after_turn s l trials d b u g).held ≡ u.state
unfolding after_turn
after_state s l trials d b u (Continue next) = state_back _ _ _ _
after_state s l trials d b u (Break z) = state_back _ _ _ _

after_counts : (s : List ℕ) (l : Layout) (trials : ℕ) (d : Damping) (b : Lent) (u : Turned) (g : Going) → tally_in (after_turn s l trials d b u g).held.counts ≡ u.turn.tally
unfolding after_turn held_of failed_of
after_counts s l trials d b u (Continue next) = tally_back More (failed_of 0 0 u.turn.tally)
after_counts s l trials d b u (Break z) = tally_back Answered (told s l trials b u.state u.turn.tally u.bytes z).answer ∙ told_tally s l trials b u.state u.turn.tally u.bytes z

others_stay : (r : List ℕ) (i : ℕ) (m : Mark) (k : ℕ) → ((n : ℕ) → n < 4 → k ≡ 4 * i + n → ⊥) → get_or (put_of r i m) k 0 ≡ get_or r k 0
unfolding put_of
others_stay r i m k away =
    let r₁ = set r (4 * i) m.first in
    let r₂ = set r₁ (4 * i + 1) m.second in
    let r₃ = set r₂ (4 * i + 2) (m.number % 256) in
    get_or-set_other r₃ (4 * i + 3) k (m.number / 256 % 256) 0 (away 3 (omega arith)) ∙ get_or-set_other r₂ (4 * i + 2) k (m.number % 256) 0 (away 2 (omega arith))
    ∙ get_or-set_other r₁ (4 * i + 1) k m.second 0 (away 1 (omega arith)) ∙ get_or-set_other r (4 * i) k m.first 0 (λ z. away 0 (omega arith) (omega arith))

pub each_trial : EachTrial
unfolding turn_of
each_trial repair s l h b good enough first e =
    let t = takes repair s l h b good enough first e in
    let u = turned repair s l h b good enough first in
    let d = damping_in h.sums in
    let g = follows (trials_of s) u.turn.tally u.turn.going in
    let i = (tally_in h.counts).trials in
    let entry : (take_with repair s h b).lent.entries ≡ u.bytes = ap (λ (o : Took). o.lent.entries) t ∙ after_entries s l (trials_of s) d b u g in
    record {
      entry = entry;
      others = λ k w. ap (λ (x : List ℕ). get_or x k 0) entry ∙ others_stay b.entries i _ k (λ n m z. ⊎_elim (λ p. omega arith) (λ p. omega arith) w);
      state = ap (λ (o : Took). state_in o.held) t ∙ after_state s l (trials_of s) d b u g;
      counts = ap (λ (o : Took). tally_in o.held.counts) t ∙ after_counts s l (trials_of s) d b u g;
    }

-- ---- the answer again

-- what was told is held, and told it will be
record Kept (o : Took) : Type 0 where
  over : over o.held ≡ true
  same : answered (answer_in o.held.sums o.held.counts) ≡ o.taken

never : {A : Type 0} (m n : ℕ) → m < n → m ≡ n → A
never m n l e = absurd (omega arith)

kept_turn : (s : List ℕ) (l : Layout) (trials : ℕ) (d : Damping) (b : Lent) (u : Turned) (g : Going) → told_number (after_turn s l trials d b u g).taken.how ≡ 1 → Kept (after_turn s l trials d b u g)
unfolding after_turn over held_of counts_of
kept_turn s l trials d b u (Continue next) e = never 0 1 (omega arith) e
kept_turn s l trials d b u (Break z) e = record { over = refl; same = ap answered (answer_back d (told s l trials b u.state u.turn.tally u.bytes z).answer) }

module _ (repair : Repair) (s : List ℕ) (h : Held) (b : Lent) where
  kept_lent : (l : Layout) (f : Option ℕ) → told_number (take_lent repair s l h b f).taken.how ≡ 1 → Kept (take_lent repair s l h b f)
  unfolding take_lent take_turn
  kept_lent l (Some place) e = never 1 2 (omega arith) (sym e)
  kept_lent l None e = let u = next_of repair s l h b in kept_turn s l (trials_of s) (damping_in h.sums) b u (follows (trials_of s) u.turn.tally u.turn.going) e

  kept_read : (r : Reading) → told_number (take_read repair s h b r).taken.how ≡ 1 → Kept (take_read repair s h b r)
  unfolding take_read
  kept_read (Err r) e = never 1 2 (omega arith) (sym e)
  kept_read (Ok l) e = kept_lent l (short_of s l b) e

  kept_take : (x : Bool) → over h ≡ x → told_number (cond x (unchanged (answered (answer_in h.sums h.counts)) h b) (take_read repair s h b (read_of s))).taken.how ≡ 1
      → Kept (cond x (unchanged (answered (answer_in h.sums h.counts)) h b) (take_read repair s h b (read_of s)))
  kept_take true p e = record { over = p; same = refl }
  kept_take false p e = kept_read (read_of s) e

pub repeats : Repeats
unfolding take_with
repeats repair s s' h b b' e =
    let k = kept_take repair s h b (over h) refl e in
    rw k.over (ap (λ (t : Taken). unchanged t (take_with repair s h b).held b') k.same)

-- ---- refusals

after_turn_lem : (s : List ℕ) (l : Layout) (trials : ℕ) (d : Damping) (b : Lent) (u : Turned) (g : Going) → told_number (after_turn s l trials d b u g).taken.how ≤ 1
unfolding after_turn
after_turn_lem s l trials d b u (Continue next) = omega arith
after_turn_lem s l trials d b u (Break z) = omega arith

module _ (repair : Repair) (s : List ℕ) (h : Held) (b : Lent) where
  refused_lent : (l : Layout) (f : Option ℕ) → told_number (take_lent repair s l h b f).taken.how ≡ 2 → ((take_lent repair s l h b f).held ≡ h) × ((take_lent repair s l h b f).lent ≡ b)
  unfolding take_lent take_turn
  refused_lent l (Some place) e = (refl, refl)
  refused_lent l None e =
      let u = next_of repair s l h b in
      let m = after_turn_lem s l (trials_of s) (damping_in h.sums) b u (follows (trials_of s) u.turn.tally u.turn.going) in
      absurd (omega arith)

  refused_read : (r : Reading) → told_number (take_read repair s h b r).taken.how ≡ 2 → ((take_read repair s h b r).held ≡ h) × ((take_read repair s h b r).lent ≡ b)
  unfolding take_read
  refused_read (Err r) e = (refl, refl)
  refused_read (Ok l) e = refused_lent l (short_of s l b) e

  refused_take : (x : Bool) → told_number (cond x (unchanged (answered (answer_in h.sums h.counts)) h b) (take_read repair s h b (read_of s))).taken.how ≡ 2
      → ((cond x (unchanged (answered (answer_in h.sums h.counts)) h b) (take_read repair s h b (read_of s))).held ≡ h)
      × ((cond x (unchanged (answered (answer_in h.sums h.counts)) h b) (take_read repair s h b (read_of s))).lent ≡ b)
  refused_take true e = never 1 2 (omega arith) e
  refused_take false e = refused_read (read_of s) e

pub refuses : Refuses
unfolding take_with
refuses repair s h b e = refused_take repair s h b (over h) e

pub short : Short
unfolding take_with take_read take_lent
short repair s l h b place good first e =
    let same : take_with repair s h b ≡ unchanged (refusal 5 place) h b = rw (first, good, e) in
    (same, λ s' b'. ap (λ (o : Took). take_with repair s' o.held b') same)

-- ---- what is told

of_more : OneOfThree More
of_more = inl refl

of_answer : OneOfThree Answered
of_answer = inr (inl refl)

of_refusal : OneOfThree Refused
of_refusal = inr (inr refl)

tells_turn : (s : List ℕ) (l : Layout) (trials : ℕ) (d : Damping) (b : Lent) (u : Turned) (g : Going) → OneOfThree (after_turn s l trials d b u g).taken.how
unfolding after_turn
tells_turn s l trials d b u (Continue next) = of_more
tells_turn s l trials d b u (Break z) = of_answer

module _ (repair : Repair) (s : List ℕ) (h : Held) (b : Lent) where
  tells_start : (r : Reading) → OneOfThree (start_read s h r).taken.how
  unfolding start_read
  tells_start (Err r) = of_refusal
  tells_start (Ok l) = of_more

  tells_lent : (l : Layout) (f : Option ℕ) → OneOfThree (take_lent repair s l h b f).taken.how
  unfolding take_lent take_turn
  tells_lent l (Some place) = of_refusal
  tells_lent l None = let u = next_of repair s l h b in tells_turn s l (trials_of s) (damping_in h.sums) b u (follows (trials_of s) u.turn.tally u.turn.going)

  tells_read : (r : Reading) → OneOfThree (take_read repair s h b r).taken.how
  unfolding take_read
  tells_read (Err r) = of_refusal
  tells_read (Ok l) = tells_lent l (short_of s l b)

  tells_take : (x : Bool) → OneOfThree (cond x (unchanged (answered (answer_in h.sums h.counts)) h b) (take_read repair s h b (read_of s))).taken.how
  tells_take true = of_answer
  tells_take false = tells_read (read_of s)

pub tells : Tells
unfolding start_held take_with
tells repair s h b = (tells_start repair s h b (read_of s), tells_take repair s h b (over h))
