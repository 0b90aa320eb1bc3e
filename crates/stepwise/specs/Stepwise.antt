-- What may be relied on when a solve is taken one trial at a time, each call given the state and the buffers as the one before left them. Definitions only.
use Rattle.std.specs.Prelude.{ℕ, zero, suc, ◌+◌, ◌*◌, ◌≤◌, ◌<◌, ◌≡◌, List, true, false, cond, ◌⊎◌, eqb, length, get_or, Ok, Some}
use Rattle.sheet.specs.Read.{read_of}
use Rattle.layout.specs.declared.places.Layout.{Layout}
use Rattle.trial.specs.Trial.{Outcome, Repair, trial_with}
use Rattle.entries.specs.Entries.{none, counted}
use Rattle.marks.specs.Marks.{mark_of, put_of}
use Rattle.answers.specs.Answers.{Lent, Enough, too_short}
use Rattle.solver.specs.Solve.{trials_of, solve_with}
use Rattle.held.specs.declared.Told.{Told}
use Rattle.held.specs.declared.Told.TheVariants.{More, Answered, Refused}
use Rattle.held.specs.Held.{Held, told_number, state_in, damping_in, tally_in, more, answered, refusal}
use Rattle.turns.specs.Turns.{due}
use Rattle.held_start.specs.Start.{start_held}
use Rattle.stepping.specs.Taking.{Took, unchanged, over, take_with}

-- ---- one call

-- the entry of a trial is put behind those that are counted, and no other byte of the record changes; the state that is held is the trial's, and the entry is counted
pub record Adds (o : Outcome) (h : Held) (b : Lent) (w : Took) : Type 0 where
  pub entry : w.lent.entries ≡ put_of b.entries (tally_in h.counts).trials (mark_of o.entry)
  pub others : (k : ℕ) → (k < 4 * (tally_in h.counts).trials) ⊎ (4 * (tally_in h.counts).trials + 4 ≤ k) → get_or w.lent.entries k 0 ≡ get_or b.entries k 0
  pub state : state_in w.held ≡ o.state
  pub counts : tally_in w.held.counts ≡ counted (tally_in h.counts) o.entry

-- of a good sheet, with buffers that are enough and an answer not yet there, a call takes one trial of document 01 from the state that is held
abbrev pub EachTrial : Type 0
EachTrial = (repair : Repair) (s : List ℕ) (l : Layout) (h : Held) (b : Lent) → read_of s ≡ Ok l → Enough l (trials_of s) b → over h ≡ false → due (trials_of s) (tally_in h.counts) ≡ true
    → Adds (trial_with repair s l (damping_in h.sums) (state_in h)) h b (take_with repair s h b)

-- more follow, the answer or a refusal, and no other number
abbrev pub OneOfThree : Told → Type 0
OneOfThree how = (how ≡ More) ⊎ (how ≡ Answered) ⊎ (how ≡ Refused)

-- the start and each call tell one of these, whatever the sheet, what is held and the buffers
abbrev pub Tells : Type 0
Tells = (repair : Repair) (s : List ℕ) (h : Held) (b : Lent) → OneOfThree (start_held s h).taken.how × OneOfThree (take_with repair s h b).taken.how

-- once the answer was told, every call tells it again and changes nothing, whatever the sheet and the buffers
abbrev pub Repeats : Type 0
Repeats = (repair : Repair) (s s' : List ℕ) (h : Held) (b b' : Lent) → told_number (take_with repair s h b).taken.how ≡ 1
    → take_with repair s' (take_with repair s h b).held b' ≡ unchanged (take_with repair s h b).taken (take_with repair s h b).held b'

-- a call that is refused changes nothing
abbrev pub Refuses : Type 0
Refuses = (repair : Repair) (s : List ℕ) (h : Held) (b : Lent) → told_number (take_with repair s h b).taken.how ≡ 2 → ((take_with repair s h b).held ≡ h) × ((take_with repair s h b).lent ≡ b)

-- before the answer, too short a buffer is refused with 5 at its place, and the next call goes on as if that one had not been
abbrev pub Short : Type 0
Short = (repair : Repair) (s : List ℕ) (l : Layout) (h : Held) (b : Lent) (place : ℕ) → read_of s ≡ Ok l → over h ≡ false
    → too_short l (trials_of s) (length b.heads) (length b.demands) (length b.flows) (length b.statuses) (length b.entries) (length b.scratch) ≡ Some place
    → (take_with repair s h b ≡ unchanged (refusal 5 place) h b) × ((s' : List ℕ) (b' : Lent) → take_with repair s' (take_with repair s h b).held b' ≡ take_with repair s' h b')

-- ---- all calls

-- calls one after the other until one tells that no more are to be taken, at most n: how many they were, and the last
pub record Went : Type 0 where
  pub calls : ℕ
  pub last : Took

unfoldable pub onward : Took → (Held → Lent → Went) → Went
onward o next =
    cond (eqb (told_number o.taken.how) 0) (record { calls = suc (next o.held o.lent).calls; last = (next o.held o.lent).last }) (record { calls = 1; last = o })

unfoldable pub go_on : Repair → List ℕ → ℕ → Held → Lent → Went
unfolding onward
go_on repair s zero h b = record { calls = 0; last = unchanged (more none) h b }
go_on repair s (suc n) h b = onward (take_with repair s h b) (go_on repair s n)

-- from the start, of a good sheet and with buffers that are enough, the calls come to the whole solve's answer, record and results, after as many as it counts trials
abbrev pub Whole : Type 0
Whole = (repair : Repair) (s : List ℕ) (l : Layout) (was : Held) (b : Lent) → read_of s ≡ Ok l → Enough l (trials_of s) b
    → ((go_on repair s (trials_of s) (start_held s was).held b).last.taken ≡ answered (solve_with repair s b).answer)
    × ((go_on repair s (trials_of s) (start_held s was).held b).last.lent ≡ (solve_with repair s b).lent)
    × ((go_on repair s (trials_of s) (start_held s was).held b).calls ≡ (solve_with repair s b).answer.trials)
