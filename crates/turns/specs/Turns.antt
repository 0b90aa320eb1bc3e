-- The next trial of a solve whose counts may be any, and what follows it. Definitions only.
use Rattle.std.specs.Prelude.{ℕ, List, Bool, cond, ◌&&◌, ltb, leb}
use Rattle.layout.specs.declared.places.Layout.{Layout}
use Rattle.damping.specs.declared.steps.Damping.{Damping}
use Rattle.state.specs.State.{State}
use Rattle.trial.specs.Trial.{Repair}
use Rattle.entries.specs.Entries.{none, Going}
use Rattle.entries.specs.declared.Ended.TheVariants.{Limit}
use Rattle.entries.specs.declared.Tally.{Tally}
use Rattle.runs.specs.Run.{Turned, turn_of}
use Rattle.std.proofs.Common.{Break, Continue}

-- whether the counts can be those of a start and trials with one more to take
unfoldable pub due : ℕ → Tally → Bool
due trials t = ltb t.trials trials && leb t.freed t.trials && leb t.grounded t.trials

-- one trial, where one is due; else none is taken and the run is over at its limit, with no counts
unfoldable pub next_turn : Repair → List ℕ → Layout → ℕ → Damping → Tally → List ℕ → State → Turned
unfolding due
next_turn repair s l trials d tally bytes t =
    cond (due trials tally) (turn_of repair s l d tally bytes t) (record { turn = record { going = Break Limit; tally = none }; bytes = bytes; state = t })

-- what follows a trial where so many are allowed: after the last one there is none
unfoldable pub follows : ℕ → Tally → Going → Going
follows trials t (Continue d) = cond (ltb t.trials trials) (Continue d) (Break Limit)
follows trials t (Break z) = Break z
