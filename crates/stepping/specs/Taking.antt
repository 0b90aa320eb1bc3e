-- One call that takes a trial of a solve whose state the caller holds. Definitions only.
use Rattle.std.specs.Prelude.{ℕ, List, Bool, cond, not, eqb, length, get_or, Err, None, Ok, Option, Some}
use Rattle.refusals.specs.Refusals.{number_of, place_of}
use Rattle.sheet.specs.Read.{read_of, Reading}
use Rattle.layout.specs.declared.places.Layout.{Layout}
use Rattle.damping.specs.declared.steps.Damping.{Damping}
use Rattle.trial.specs.Trial.{Repair, repair_of}
use Rattle.runs.specs.Run.{Turned}
use Rattle.answers.specs.Answers.{Lent, lent, too_short}
use Rattle.conclusion.specs.Conclusion.{emptied, told}
use Rattle.turns.specs.Turns.{follows, next_turn}
use Rattle.solver.specs.Solve.{trials_of}
use Rattle.held.specs.Held.{Held, state_in, damping_in, tally_in, answer_in, held_of, more, answered, refusal}
use Rattle.held.specs.declared.Taken.{Taken}
use Rattle.std.proofs.Common.{Break, Continue}
use Rattle.entries.specs.Entries.{Going}

-- what is told, what is held and what was lent after it
pub record Took : Type 0 where
  pub taken : Taken
  pub held : Held
  pub lent : Lent

abbrev pub unchanged : Taken → Held → Lent → Took
unchanged t h b = record { taken = t; held = h; lent = b }

-- after the turn u, taken with the damping d: more, or the end of the run as a solve tells it
unfoldable pub after_turn : List ℕ → Layout → ℕ → Damping → Lent → Turned → Going → Took
after_turn s l trials d b u (Continue next) =
    let t = more u.turn.tally in
    record {
      taken = t;
      held = held_of u.state next t;
      lent = lent b.heads b.demands b.flows b.statuses u.bytes (emptied b.scratch);
    }
after_turn s l trials d b u (Break z) =
    let o = told s l trials b u.state u.turn.tally u.bytes z in
    record { taken = answered o.answer; held = held_of u.state d (answered o.answer); lent = o.lent }

-- the next trial from what is held
unfoldable pub take_turn : Repair → List ℕ → Layout → Held → Lent → Took
unfolding after_turn next_turn follows state_in
take_turn repair s l h b =
    let trials = trials_of s in
    let d = damping_in h.sums in
    let u = next_turn repair s l trials d (tally_in h.counts) b.entries (state_in h) in
    after_turn s l trials d b u (follows trials u.turn.tally u.turn.going)

-- 5 for a buffer that is too short
unfoldable pub take_lent : Repair → List ℕ → Layout → Held → Lent → Option ℕ → Took
unfolding take_turn
take_lent repair s l h b (Some place) = unchanged (refusal 5 place) h b
take_lent repair s l h b None = take_turn repair s l h b

-- 1 to 4 for a sheet that is not good
unfoldable pub take_read : Repair → List ℕ → Held → Lent → Reading → Took
unfolding take_lent
take_read repair s h b (Err r) = unchanged (refusal (number_of r) (place_of r)) h b
take_read repair s h b (Ok l) =
    take_lent repair s l h b
    (too_short l (trials_of s) (length b.heads) (length b.demands) (length b.flows) (length b.statuses) (length b.entries) (length b.scratch))

-- whether the answer is there
unfoldable pub over : Held → Bool
over h = not (eqb (get_or h.counts 0 0) 0)

-- the whole: the answer again once it is there, whatever the sheet and the buffers
unfoldable pub take_with : Repair → List ℕ → Held → Lent → Took
unfolding take_read over
take_with repair s h b = cond (over h) (unchanged (answered (answer_in h.sums h.counts)) h b) (take_read repair s h b (read_of s))

abbrev pub take_of : List ℕ → Held → Lent → Took
take_of = take_with repair_of
