-- What is promised of every trial, solve and verdict, one closed statement each, by the definitions of the other files; its proof bears its name in small letters. Definitions only.
use Rattle.std.specs.Prelude.{ℕ, suc, ◌+◌, ◌-◌, ◌≤◌, ◌<◌, ◌≡◌, ◌↔◌, true, false, List, T, length, get_or, drop, None, Ok}
use Rattle.std.specs.Float.Ieee.{le}
use Rattle.constants.specs.Constants as constant
use Rattle.layout.specs.declared.places.Layout.{Layout}
use Rattle.nodes.specs.Nodes.{serving}
use Rattle.nodes.specs.declared.NodeIndex.{NodeIndex}
use Rattle.links.specs.declared.LinkIndex.{LinkIndex}
use Rattle.fields.specs.Fields.{base_bounds}
use Rattle.accepted.specs.Accepted.{cause_of}
use Rattle.sheet.specs.Read.{read_of}
use Rattle.entries.specs.Entries.{no_entry}
use Rattle.entries.specs.declared.Entry.TheVariants.{Freed, Grounded, Singular, Wild, Converged}
use Rattle.marks.specs.Marks.{mark_of}
use Rattle.state.specs.State.{State}
use Rattle.damping.specs.declared.steps.Damping.{Damping}
use Rattle.trial.specs.Trial.{outcome, no_repair, trial_of}
use Rattle.answers.specs.Answers.{Lent, Solved}
use Rattle.answers.specs.declared.Answer.{Answer}
use Rattle.solver.specs.Solve.{trials_of, start_of, solve_with, solve_of}
use Rattle.repairs_shown.specs.Shown.{repair_shown}
use Rattle.tolerance.specs.declared.Limits.{Limits}
use Rattle.sale.specs.Sale.{sale_of}
use Rattle.promises.specs.Count.{count}
use Rattle.promises.specs.Repairs.{Frees, Grounds, Refuses, freed_in, grounded_in, fails, Spared}
use Rattle.promises.specs.Trials.{trial_at, run_in, point_in}
use Rattle.promises.specs.Marks.{marked, number_at, Counted, Shown}
use Rattle.promises.specs.Bound.{failing, fails_at, active}
use Rattle.promises.specs.Solves.{Runs}
use Rattle.promises.specs.Buffers.{Buffers, Delivered}
use Rattle.promises.specs.Causes.{Cause, EndsBy, last_in, before_last}
use Rattle.promises.specs.Places.{RefusedFor, ShortAt}
use Rattle.promises.specs.Convergence.{SolveConverges}
use Rattle.promises.specs.Wilds.{WildAt}
use Rattle.promises.specs.Sold.{Offered, June, Why}
use Rattle.promises.specs.Grounding.{Carries, Entered, GnBefore, SixShown}
use Rattle.causes.specs.Causes.{Flip}

-- ---- demand 1: every sheet gets exactly one answer

-- two answers that meet the contract of `solve`, each with the six buffers that it leaves, are equal, and so are the buffers
abbrev pub OneAnswer : Type 0
OneAnswer =
    (s : List ℕ) (b : Lent) (a a' : Answer) (x x' : Lent) → ◌≡◌ {A = Solved} (record { answer = a; lent = x }) (solve_of s b) → ◌≡◌ {A = Solved} (record { answer = a'; lent = x' }) (solve_of s b)
    → (a ≡ a') × (x ≡ x')

-- what is changed of the buffers, and what the answer tells, by its number
abbrev pub SolveBuffers : Type 0
SolveBuffers = (s : List ℕ) (b : Lent) → Buffers b (solve_of s b)

-- on 0 the results are those of the state that the run left, one entry a node or a link
abbrev pub SolveDelivers : Type 0
SolveDelivers = (s : List ℕ) (b : Lent) (l : Layout) → Runs s b l → (solve_of s b).answer.number ≡ 0 → Delivered s l (run_in s l).state b (solve_of s b)

-- ---- each number and place is told where it has its cause, and in no other case

abbrev pub ToldOfCause : Type 0
ToldOfCause = (s : List ℕ) (b : Lent) (number place : ℕ) → Cause s b number place → ((solve_of s b).answer.number ≡ number) × ((solve_of s b).answer.place ≡ place)

abbrev pub CauseOfTold : Type 0
CauseOfTold = (s : List ℕ) (b : Lent) → Cause s b (solve_of s b).answer.number (solve_of s b).answer.place

-- 1 to 4: the sheet has that cause
abbrev pub RefusedBySheet : Type 0
RefusedBySheet = (s : List ℕ) (b : Lent) → 1 ≤ cause_of base_bounds s → (solve_of s b).answer.number ≡ cause_of base_bounds s

abbrev pub SheetOnly : Type 0
SheetOnly = (s : List ℕ) (b : Lent) → 1 ≤ (solve_of s b).answer.number → (solve_of s b).answer.number ≤ 4 → cause_of base_bounds s ≡ (solve_of s b).answer.number

-- 1 to 4: what the number means stands at the place, nothing of the kind stands before it, and no lower number has a cause
abbrev pub PlaceOfSheet : Type 0
PlaceOfSheet = (s : List ℕ) (b : Lent) → 1 ≤ (solve_of s b).answer.number → (solve_of s b).answer.number ≤ 4 → RefusedFor s (solve_of s b).answer.number (solve_of s b).answer.place

-- 5: the sheet is read, the buffer at the place is too short for it, and each lower one is long enough
abbrev pub PlaceOfBuffer : Type 0
PlaceOfBuffer = (s : List ℕ) (b : Lent) → (solve_of s b).answer.number ≡ 5 → (l : Layout) × ((read_of s ≡ Ok l) × ShortAt l (trials_of s) b (solve_of s b).answer.place)

-- a solve that is not refused for its sheet or its buffers runs a trial, and its number and place are told by its last entry
abbrev pub RunsATrial : Type 0
RunsATrial = (s : List ℕ) (b : Lent) (l : Layout) → Runs s b l → 1 ≤ (solve_of s b).answer.trials

abbrev pub SolveEndsBy : Type 0
SolveEndsBy = (s : List ℕ) (l : Layout) → EndsBy (trials_of s) (run_in s l)

-- 0: the last trial converged
abbrev pub ZeroConverged : Type 0
ZeroConverged = (s : List ℕ) (b : Lent) → (solve_of s b).answer.number ≡ 0 → (l : Layout) × (Runs s b l × ((flip : Flip) × (last_in s l ≡ Converged flip)))

-- 0: of the last trial's step, the relative change is below the accuracy, no status changed that counts, the largest flow change in the sheet's unit is below the one allowed, or
-- below BIG_VALUE where that is 0; and nothing that it leaves is wild
abbrev pub ZeroConverges : Type 0
ZeroConverges = (s : List ℕ) (b : Lent) → (solve_of s b).answer.number ≡ 0 → (l : Layout) × (Runs s b l × SolveConverges s l)

-- 6: the last trial's factorization stopped at the place, which no Active PRV or PSV touches and which is grounded already
abbrev pub SixSingular : Type 0
SixSingular = (s : List ℕ) (b : Lent) → (solve_of s b).answer.number ≡ 6 → (l : Layout) × (Runs s b l × Refuses s l (before_last s l).state (solve_of s b).answer.place)

-- 7: the last trial's entry is the NF of the place
abbrev pub SevenWild : Type 0
SevenWild = (s : List ℕ) (b : Lent) → (solve_of s b).answer.number ≡ 7 → (l : Layout) × (Runs s b l × (last_in s l ≡ Wild (solve_of s b).answer.place))

-- 7: of the columns that the last trial leaves, the head, flow or drawn flow at the place is NaN, infinite or at least 2^64 in magnitude, and none before it in that order is
abbrev pub SevenFirstWild : Type 0
SevenFirstWild = (s : List ℕ) (b : Lent) → (solve_of s b).answer.number ≡ 7 → (l : Layout) × (Runs s b l × WildAt l (run_in s l).state (solve_of s b).answer.place)

-- 8: every allowed trial was used up
abbrev pub EightLimit : Type 0
EightLimit = (s : List ℕ) (b : Lent) → (solve_of s b).answer.number ≡ 8 → (l : Layout) × (Runs s b l × (length (run_in s l).entries ≡ trials_of s))

-- ---- demand 2: each entry and the state after each trial follow from the state before it

abbrev pub SolveEachEntry : Type 0
SolveEachEntry = (s : List ℕ) (l : Layout) (i : ℕ) → i < length (run_in s l).entries → get_or (run_in s l).entries i no_entry ≡ (trial_at s l (point_in s l i)).entry

abbrev pub SolveEachState : Type 0
SolveEachState = (s : List ℕ) (l : Layout) (i : ℕ) → (point_in s l (suc i)).state ≡ (trial_at s l (point_in s l i)).state

-- the state that the run leaves is the one after all its entries
abbrev pub SolveLastState : Type 0
SolveLastState = (s : List ℕ) (l : Layout) → (run_in s l).state ≡ (point_in s l (length (run_in s l).entries)).state

-- the damping factor stays from 0.25 to 1
abbrev pub SolveInRange : Type 0
SolveInRange = (s : List ℕ) (l : Layout) (i : ℕ) → T (le constant.quarter (point_in s l i).damping.factor) × T (le (point_in s l i).damping.factor constant.one)

-- ---- demand 3: which repair

-- when a factorization fails at a node, the lowest-numbered Active PRV or PSV touching it is freed, and nothing else changes
abbrev pub TrialFrees : Type 0
TrialFrees = (s : List ℕ) (l : Layout) (d : Damping) (t : State) (j : ℕ) → Frees s l t j → trial_of s l d t ≡ outcome (Freed (record { 0 = j })) (freed_in t j)

-- if none touches it, the node is grounded, and nothing else changes
abbrev pub TrialGrounds : Type 0
TrialGrounds = (s : List ℕ) (l : Layout) (d : Damping) (t : State) (i : ℕ) → Grounds s l t i → trial_of s l d t ≡ outcome (Grounded (record { 0 = i })) (grounded_in t i)

-- if it is grounded already, the solve is refused naming it, and nothing changes
abbrev pub TrialRefuses : Type 0
TrialRefuses = (s : List ℕ) (l : Layout) (d : Damping) (t : State) (i : ℕ) → Refuses s l t i → trial_of s l d t ≡ outcome (Singular (record { 0 = i })) t

-- no other valve is freed, no other node grounded or refused
abbrev pub FreedOnly : Type 0
FreedOnly = (s : List ℕ) (l : Layout) (d : Damping) (t : State) (j : LinkIndex) → (trial_of s l d t).entry ≡ Freed j → Frees s l t j.0

abbrev pub GroundedOnly : Type 0
GroundedOnly = (s : List ℕ) (l : Layout) (d : Damping) (t : State) (v : NodeIndex) → (trial_of s l d t).entry ≡ Grounded v → Grounds s l t v.0

abbrev pub RefusedOnly : Type 0
RefusedOnly = (s : List ℕ) (l : Layout) (d : Damping) (t : State) (v : NodeIndex) → (trial_of s l d t).entry ≡ Singular v → Refuses s l t v.0

-- a failed trial changes statuses or marks alone
abbrev pub TrialSpares : Type 0
TrialSpares = (s : List ℕ) (l : Layout) (d : Damping) (t : State) → fails (trial_of s l d t).entry ≡ true → Spared t (trial_of s l d t).state

-- ---- demand 3: every repair stands in the record, and the record shows no other

-- freed and grounded count its VF and GN, trials its entries
abbrev pub SolveCounts : Type 0
SolveCounts = (s : List ℕ) (b : Lent) → Counted (solve_of s b)

abbrev pub TrialsAre : Type 0
TrialsAre = (s : List ℕ) (b : Lent) (l : Layout) → Runs s b l → (solve_of s b).answer.trials ≡ length (run_in s l).entries

-- each trial's entry stands in its place, and its number can be read from its two bytes
abbrev pub EntryShown : Type 0
EntryShown =
    (s : List ℕ) (b : Lent) (l : Layout) → Runs s b l → (i : ℕ) → i < length (run_in s l).entries → Shown (solve_of s b).lent.entries i (get_or (run_in s l).entries i no_entry)

abbrev pub NumberShown : Type 0
NumberShown =
    (s : List ℕ) (b : Lent) (l : Layout) → Runs s b l → (i : ℕ) → i < length (run_in s l).entries → number_at (solve_of s b).lent.entries i ≡ (mark_of (get_or (run_in s l).entries i no_entry)).number

-- an entry marked VF is that of a trial that freed a valve, one marked GN that of a trial that grounded a node
abbrev pub VfFreed : Type 0
VfFreed =
    (s : List ℕ) (b : Lent) (l : Layout) → Runs s b l → (i : ℕ) → i < length (run_in s l).entries → marked 86 70 (solve_of s b).lent.entries i ≡ true
    → (j : LinkIndex) × (get_or (run_in s l).entries i no_entry ≡ Freed j)

abbrev pub GnGrounded : Type 0
GnGrounded =
    (s : List ℕ) (b : Lent) (l : Layout) → Runs s b l → (i : ℕ) → i < length (run_in s l).entries → marked 71 78 (solve_of s b).lent.entries i ≡ true
    → (v : NodeIndex) × (get_or (run_in s l).entries i no_entry ≡ Grounded v)

-- an answer that counts no repair is that of the solver that repairs nothing and stops at its first failure, with the same results and the same record
abbrev pub UnmendedIsBare : Type 0
UnmendedIsBare = (s : List ℕ) (b : Lent) → (solve_of s b).answer.freed ≡ 0 → (solve_of s b).answer.grounded ≡ 0 → solve_of s b ≡ solve_with no_repair s b

-- so is one whose record has no VF and no GN
abbrev pub UnmarkedIsBare : Type 0
UnmarkedIsBare =
    (s : List ℕ) (b : Lent) → count (solve_of s b).answer.trials (marked 86 70 (solve_of s b).lent.entries) ≡ 0 → count (solve_of s b).answer.trials (marked 71 78 (solve_of s b).lent.entries) ≡ 0
    → solve_of s b ≡ solve_with no_repair s b

-- and one whose record is found to show no repair
abbrev pub NoneShownIsBare : Type 0
NoneShownIsBare = (s : List ℕ) (b : Lent) → repair_shown (solve_of s b).lent.entries (solve_of s b).answer.trials ≡ None → solve_of s b ≡ solve_with no_repair s b

-- ---- demand 3: repairs end

-- with U junctions in service and V regulators Active before trial i, no more than V + U + 1 trials fail one after the other from it on
abbrev pub SolveRepairsEnd : Type 0
SolveRepairsEnd =
    (s : List ℕ) (l : Layout) → read_of s ≡ Ok l → (i : ℕ) → failing (drop i (run_in s l).entries) ≤ active s l (point_in s l i).state + serving s l l.nodes + 1

-- no two entries ground one node
abbrev pub SolveGroundedOnce : Type 0
SolveGroundedOnce =
    (s : List ℕ) (l : Layout) → read_of s ≡ Ok l → (v : NodeIndex) (i j : ℕ) → i < j → j < length (run_in s l).entries
    → get_or (run_in s l).entries i no_entry ≡ Grounded v → get_or (run_in s l).entries j no_entry ≡ Grounded v → ⊥

-- the same by the bytes of the record: no more than V + U + 1 entries with the letters VF, GN or SG stand one behind the other from the ith on
abbrev pub RepairsEndShown : Type 0
RepairsEndShown =
    (s : List ℕ) (b : Lent) (l : Layout) → Runs s b l → (i n : ℕ) → i + n ≤ (solve_of s b).answer.trials → ((j : ℕ) → j < n → fails_at (solve_of s b).lent.entries (i + j) ≡ true)
    → n ≤ active s l (point_in s l i).state + serving s l l.nodes + 1

-- no two GN entries have the same number
abbrev pub GroundedOnceShown : Type 0
GroundedOnceShown =
    (s : List ℕ) (b : Lent) (i j : ℕ) → i < j → j < (solve_of s b).answer.trials → marked 71 78 (solve_of s b).lent.entries i ≡ true → marked 71 78 (solve_of s b).lent.entries j ≡ true
    → number_at (solve_of s b).lent.entries i ≡ number_at (solve_of s b).lent.entries j → ⊥

-- ---- demand 3: a mark has its entry

-- a solve begins with no node grounded
abbrev pub UnmarkedAtStart : Type 0
UnmarkedAtStart = (s : List ℕ) (l : Layout) (v : ℕ) → get_or (start_of s l).grounded v false ≡ false

-- before each of its trials, and after its last, a node carries the grounded mark if and only if an earlier entry is its GN
abbrev pub MarkHasEntry : Type 0
MarkHasEntry = (s : List ℕ) (l : Layout) → read_of s ≡ Ok l → (i v : ℕ) → i ≤ length (run_in s l).entries → Carries s l i v ↔ Entered s l i v

-- that entry stands in the record that is handed back
abbrev pub MarkIsShown : Type 0
MarkIsShown = (s : List ℕ) (b : Lent) (l : Layout) → Runs s b l → (i v : ℕ) → i ≤ (solve_of s b).answer.trials → Carries s l i v ↔ GnBefore (solve_of s b).lent.entries i v

-- 6 names a node whose GN is an entry before the last
abbrev pub SixWasGrounded : Type 0
SixWasGrounded = (s : List ℕ) (b : Lent) → (solve_of s b).answer.number ≡ 6 → (l : Layout) × (Runs s b l × Entered s l (length (run_in s l).entries - 1) (solve_of s b).answer.place)

-- and both its GN and its SG stand in the record
abbrev pub SixIsShown : Type 0
SixIsShown = (s : List ℕ) (b : Lent) → (solve_of s b).answer.number ≡ 6 → SixShown (solve_of s b)

-- ---- the verdict: may this hour be sold

-- the sale's answer and buffers are the solve's
abbrev pub SellsTheSolve : Type 0
SellsTheSolve = (s : List ℕ) (limits : Limits) (b : Lent) → ((sale_of s limits b).answer ≡ (solve_of s b).answer) × ((sale_of s limits b).lent ≡ (solve_of s b).lent)

-- sold means sold
abbrev pub SoldMeansSold : Type 0
SoldMeansSold = (s : List ℕ) (limits : Limits) (b : Lent) → (sale_of s limits b).verdict.number ≡ 0 → (l : Layout) × Offered s l limits b (sale_of s limits b)

-- no solve in which a regulator was freed, a node was grounded or a head hangs on nothing is sold
abbrev pub JuneNeverSold : Type 0
JuneNeverSold = (s : List ℕ) (limits : Limits) (b : Lent) (l : Layout) → read_of s ≡ Ok l → June s l (sale_of s limits b) → (sale_of s limits b).verdict.number ≡ 0 → ⊥

-- each verdict has its cause, at its place, and no line before it holds; it is 8 at most
abbrev pub UnsoldWhy : Type 0
UnsoldWhy = (s : List ℕ) (limits : Limits) (b : Lent) → Why s limits b (sale_of s limits b) (sale_of s limits b).verdict.number (sale_of s limits b).verdict.place

abbrev pub AtMostEight : Type 0
AtMostEight = (s : List ℕ) (limits : Limits) (b : Lent) → (sale_of s limits b).verdict.number ≤ 8
