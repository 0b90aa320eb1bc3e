-- One turn: a trial with its entry in the record; and a run of trials: its entries in order, how it ended, and the state that it left. Definitions only.
use Rattle.std.specs.Prelude.{ℕ, zero, suc, List, [], ◌∷◌}
use Rattle.damping.specs.declared.steps.Damping.{Damping}
use Rattle.entries.specs.declared.Entry.{Entry}
use Rattle.layout.specs.declared.places.Layout.{Layout}
use Rattle.state.specs.State.{State}
use Rattle.trial.specs.Trial.{Outcome, Repair, trial_with}
use Rattle.entries.specs.Entries.{going_of, counted, tallied, Going}
use Rattle.marks.specs.Marks.{mark_of, put_of, written}
use Rattle.entries.specs.declared.Ended.{Ended}
use Rattle.entries.specs.declared.Ended.TheVariants.{Limit}
use Rattle.entries.specs.declared.Tally.{Tally}
use Rattle.runs.specs.declared.Ran.{Ran}
use Rattle.runs.specs.declared.Turn.{Turn}
use Rattle.std.proofs.Common.{Break, Continue}

-- what a turn leaves: what follows with the tally, the record's bytes and the state
pub record Turned : Type 0 where
  pub turn : Turn
  pub bytes : List ℕ
  pub state : State

-- one trial: its entry is put into the record behind those of the tally, and counted
unfoldable pub turn_of : Repair → List ℕ → Layout → Damping → Tally → List ℕ → State → Turned
turn_of repair s l d tally bytes t =
    let o = trial_with repair s l d t in
    record {
      turn = record { going = going_of d o.entry; tally = counted tally o.entry };
      bytes = put_of bytes tally.trials (mark_of o.entry);
      state = o.state;
    }

pub record Run : Type 0 where
  pub entries : List Entry
  pub ended : Ended
  pub state : State

-- an entry, the state after it, and the trials that follow if there are any
unfoldable pub then_run : Entry → State → Going → (Damping → State → Run) → Run
then_run e t (Continue d) next = record { entries = e ∷ (next d t).entries; ended = (next d t).ended; state = (next d t).state }
then_run e t (Break z) next = record { entries = e ∷ []; ended = z; state = t }

-- at most m trials
unfoldable pub run_with : Repair → List ℕ → Layout → ℕ → Damping → State → Run
unfolding then_run
run_with repair s l zero d t = record { entries = []; ended = Limit; state = t }
run_with repair s l (suc m) d t =
    let o = trial_with repair s l d t in
    then_run o.entry o.state (going_of d o.entry) (run_with repair s l m)

-- how a run ended with its tally, the record's bytes and the state
pub record Finished : Type 0 where
  pub ran : Ran
  pub bytes : List ℕ
  pub state : State

-- what a run leaves, of a record that holds i entries and a tally of them
unfoldable pub finish : ℕ → Tally → List ℕ → Run → Finished
finish i tally bytes run =
    record { ran = record { ended = run.ended; tally = tallied tally run.entries }; bytes = written i run.entries bytes; state = run.state }
