-- `runs::run_trials` meets its contract: what is left to run, from the state, the record and the tally as they stand, gives what the whole run gives. Assumes nothing.
use borrow.Author.Rules.{rules}
use native.Mathlib.Omega.{arith}
use Prim.Native.Nat.{◌-◌, ◌≤◌}
use mathlib.Core.Path.{◌≡◌, ◌∙◌}
use native.Mathlib.Nat.{sub-zero}
use Rattle.state.specs.State.{state}
use Rattle.trial.specs.Trial.{repair_of}
use Rattle.entries.specs.Entries.{damping_start, none}
use Rattle.columns.specs.Columns.{zeros}
use Rattle.columns.proofs.Laws.{cleared_zeros}
use Rattle.runs.specs.Run.{run_with, finish}
use Rattle.runs.proofs.Laws.{Kept, kept_start, kept_room, Counts, turn_counts, run_on, run_over, run_limit}
use Rattle.runs.proofs.run_trials.Given as goal

abbrev pub invariant-loop-tally : goal.invariant-loop-tally
invariant-loop-tally l =
    Kept (state l.initial.heads l.initial.demands l.initial.drawn l.initial.flows l.initial.statuses l.initial.grounded) (state l.heads l.demands l.drawn l.flows l.statuses l.grounded) l.initial.entries l.entries l.initial.scratch l.scratch
    × (l.tally.trials ≤ l.trials)
    × (l.tally.freed ≤ l.tally.trials)
    × (l.tally.grounded ≤ l.tally.trials)
    × (finish l.tally.trials l.tally l.entries (run_with repair_of l.sheet l.l (l.trials - l.tally.trials) l.d (state l.heads l.demands l.drawn l.flows l.statuses l.grounded))
    ≡ finish 0 none l.initial.entries (run_with repair_of l.sheet l.l l.trials damping_start (state l.initial.heads l.initial.demands l.initial.drawn l.initial.flows l.initial.statuses l.initial.grounded)))
    × (l.scratch ≡ zeros 4096)

abbrev pub decreases-loop-tally : goal.decreases-loop-tally
decreases-loop-tally l =
    l.trials - l.tally.trials
