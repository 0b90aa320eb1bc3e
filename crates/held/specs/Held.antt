-- What a caller holds between two trials: plain columns and numbers, in which any bytes may stand. Definitions only.
use Rattle.std.specs.Prelude.{ℕ, List, [], ◌∷◌, map, Bool, cond, not, eqb, get_or, Float}
use Rattle.std.specs.Float.{nan}
use Rattle.damping.specs.declared.steps.Damping.{Damping}
use Rattle.entries.specs.Entries.{none}
use Rattle.entries.specs.declared.Tally.{Tally}
use Rattle.state.specs.State.{State, state}
use Rattle.answers.specs.Answers.{failed_of}
use Rattle.answers.specs.declared.Answer.{Answer}
use Rattle.held.specs.declared.Told.{Told}
use Rattle.held.specs.declared.Told.TheVariants.{More, Answered, Refused, Other}
use Rattle.held.specs.declared.Taken.{Taken}

-- what a call tells has its number
abbrev pub told_number : Told → ℕ
told_number More = 0
told_number Answered = 1
told_number Refused = 2
told_number (Other number) = number

-- what a call tells: more trials are to be taken, with the counts so far; the answer; a refusal
abbrev pub more : Tally → Taken
more t = record { how = More; answer = failed_of 0 0 t }

abbrev pub answered : Answer → Taken
answered a = record { how = Answered; answer = a }

abbrev pub refusal : ℕ → ℕ → Taken
refusal number place = record { how = Refused; answer = failed_of number place none }

-- six columns, five sums (damping factor, previous change, total demand, total supply, error) and six counts (what the last call told, number, place, trials, freed, grounded)
pub record Held : Type 0 where
  pub heads : List Float
  pub demands : List Float
  pub drawn : List Float
  pub flows : List Float
  pub statuses : List ℕ
  pub grounded : List ℕ
  pub sums : List Float
  pub counts : List ℕ

abbrev pub held : List Float → List Float → List Float → List Float → List ℕ → List ℕ → List Float → List ℕ → Held
held h d f q c z x n = record { heads = h; demands = d; drawn = f; flows = q; statuses = c; grounded = z; sums = x; counts = n }

-- a node is grounded where its byte is not 0
abbrev pub is_mark : ℕ → Bool
is_mark b = not (eqb b 0)

abbrev pub mark_byte : Bool → ℕ
mark_byte m = cond m 1 0

unfoldable pub marks_in : List ℕ → List Bool
marks_in = map is_mark

unfoldable pub marks_out : List Bool → List ℕ
marks_out = map mark_byte

-- the state of a solve that is held
unfoldable pub state_in : Held → State
unfolding marks_in
state_in h = state h.heads h.demands h.drawn h.flows h.statuses (marks_in h.grounded)

unfoldable pub damping_in : List Float → Damping
damping_in x = record { factor = get_or x 0 nan; previous = get_or x 1 nan }

unfoldable pub tally_in : List ℕ → Tally
tally_in n = record { trials = get_or n 3 0; freed = get_or n 4 0; grounded = get_or n 5 0 }

unfoldable pub answer_in : List Float → List ℕ → Answer
answer_in x n =
    record {
      number = get_or n 1 0;
      place = get_or n 2 0;
      trials = get_or n 3 0;
      freed = get_or n 4 0;
      grounded = get_or n 5 0;
      demand = get_or x 2 nan;
      supply = get_or x 3 nan;
      error = get_or x 4 nan;
    }

-- and how it is held
unfoldable pub sums_of : Damping → Answer → List Float
sums_of d a = d.factor ∷ d.previous ∷ a.demand ∷ a.supply ∷ a.error ∷ []

unfoldable pub counts_of : Taken → List ℕ
counts_of t = told_number t.how ∷ t.answer.number ∷ t.answer.place ∷ t.answer.trials ∷ t.answer.freed ∷ t.answer.grounded ∷ []

-- a state, the damping of the next trial and what the call told
unfoldable pub held_of : State → Damping → Taken → Held
unfolding marks_out sums_of counts_of
held_of t d told = held t.heads t.demands t.drawn t.flows t.statuses (marks_out t.grounded) (sums_of d told.answer) (counts_of told)
