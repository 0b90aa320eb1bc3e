-- The ways through one trial, over plain variables. Assumes nothing.
use Prim.Native.Nat.{ℕ}
use mathlib.Core.Path.{◌≡◌}
use mathlib.Core.List.{List, ◌++◌}
use mathlib.Core.Bool.{Bool}
use borrow.Author.Tests.{eq-eqb, ne_eqb}
use lib.ListN.{length, get_or, drop}
use lib.Ieee.{Float}
use Rattle.refusals.specs.Refusals.{number_of, place_of}
use Rattle.refusals.specs.declared.refusals.Refusal.{Refusal}
use Rattle.sheet.specs.Read.{read_of, Reading}
use Rattle.layout.specs.declared.places.Layout.{Layout}
use Rattle.damping.specs.declared.steps.Damping.{Damping}
use Rattle.columns.specs.Columns.{zeros}
use Rattle.state.specs.State.{state}
use Rattle.trial.specs.Trial.{Repair}
use Rattle.entries.specs.declared.Ended.{Ended}
use Rattle.entries.specs.declared.Tally.{Tally}
use Rattle.runs.specs.Run.{Turned}
use Rattle.answers.specs.Answers.{Lent, lent, Solved, too_short}
use Rattle.answers.specs.declared.Answer.{Answer}
use Rattle.conclusion.specs.Conclusion.{emptied, told}
use Rattle.solver.specs.Solve.{trials_of}
use Rattle.solver.proofs.Laws.{emptied_part}
use Rattle.held.specs.Held.{Held, held, marks_in, marks_out, state_in, damping_in, tally_in, answer_in, sums_of, counts_of, held_of, more, answered, refusal}
use Rattle.held.specs.declared.Taken.{Taken}
use Rattle.turns.specs.Turns.{follows, next_turn}
use Rattle.stepping.specs.Taking.{Took, after_turn, take_turn, take_lent, take_read, over, take_with}
use Rattle.std.specs.Prelude.{Err, None, Ok, Option, Some}
use Rattle.std.proofs.Common.{Break, Continue}
use Rattle.entries.specs.Entries.{Going}

-- ---- one trial: the turn and its end

module _ (repair : Repair) (s : List ℕ) (l : Layout) (trials : ℕ) (h : Held) (b : Lent) (d : Damping) (tally : Tally) (z : List Bool) (u : Turned) (g : Going)
    (allowed : trials ≡ trials_of s) (damping : d ≡ damping_in h.sums) (counted : tally ≡ tally_in h.counts) (marks : z ≡ marks_in h.grounded)
    (turn : u ≡ next_turn repair s l trials d tally b.entries (state h.heads h.demands h.drawn h.flows h.statuses z))
    (follow : g ≡ follows trials u.turn.tally u.turn.going) where
  turned : take_turn repair s l h b ≡ after_turn s l trials d b u g
  unfolding take_turn state_in
  turned = rw (follow, turn, damping, counted, marks, allowed)

  pub took_more : (next : Damping) (m t : Taken) (grounded : List ℕ) (sums y : List Float) (counts : List ℕ)
      → g ≡ Continue next → grounded ≡ marks_out u.state.grounded → m ≡ more u.turn.tally → sums ≡ sums_of next m.answer → counts ≡ counts_of m → t ≡ m → y ≡ zeros 4096
      → record {
        taken = t;
        held = held u.state.heads u.state.demands u.state.drawn u.state.flows u.state.statuses grounded sums counts;
        lent = lent b.heads b.demands b.flows b.statuses u.bytes (y ++ drop 4096 b.scratch);
      } ≡ take_turn repair s l h b
  unfolding after_turn held_of
  took_more next m t grounded sums y counts eg ez em ex en et ey = rw (turned, eg, ez, ex, en, et, em, emptied_part y b.scratch ey)

  pub took_answer : (ended : Ended) (o : Solved) (a t : Taken) (grounded : List ℕ) (sums : List Float) (counts : List ℕ)
      → g ≡ Break ended → grounded ≡ marks_out u.state.grounded → o ≡ told s l trials b u.state u.turn.tally u.bytes ended
      → a ≡ answered o.answer → sums ≡ sums_of d a.answer → counts ≡ counts_of a → t ≡ a
      → record {
        taken = t;
        held = held u.state.heads u.state.demands u.state.drawn u.state.flows u.state.statuses grounded sums counts;
        lent = o.lent;
      } ≡ take_turn repair s l h b
  unfolding after_turn held_of
  took_answer ended o a t grounded sums counts eg ez eo ea ex en et = rw (turned, eg, ez, ex, en, et, ea, eo)

-- ---- one trial: before it

module _ (repair : Repair) (s : List ℕ) (h : Held) (b : Lent) where
  pub take_again : (a : Answer) → (get_or h.counts 0 0 ≡ 0 → ⊥) → a ≡ answer_in h.sums h.counts → record { taken = answered a; held = h; lent = b } ≡ take_with repair s h b
  unfolding take_with over
  take_again a ne ea = rw (ne_eqb _ _ ne, ea)

  module _ (reading : Reading) (open-still : get_or h.counts 0 0 ≡ 0) (read : reading ≡ read_of s) where
    pub take-refused : (t : Taken) (r : Refusal) (number place : ℕ) → reading ≡ Err r → number ≡ number_of r → place ≡ place_of r → t ≡ refusal number place
        → record { taken = t; held = h; lent = b } ≡ take_with repair s h b
    unfolding take_with over take_read
    take-refused t r number place e en ep et = rw (eq-eqb _ _ open-still, ← read, e, et, en, ep)

    module _ (l : Layout) (trials : ℕ) (f : Option ℕ) (good : reading ≡ Ok l) (allowed : trials ≡ trials_of s)
        (short : f ≡ too_short l trials (length b.heads) (length b.demands) (length b.flows) (length b.statuses) (length b.entries) (length b.scratch)) where
      pub take_short : (t : Taken) (place : ℕ) → f ≡ Some place → t ≡ refusal 5 place → record { taken = t; held = h; lent = b } ≡ take_with repair s h b
      unfolding take_with over take_read take_lent
      take_short t place e et = rw (eq-eqb _ _ open-still, ← read, good, ← allowed, ← short, e, et)

      pub take_runs : (o : Took) → f ≡ None → o ≡ take_turn repair s l h b → o ≡ take_with repair s h b
      unfolding take_with over take_read take_lent
      take_runs o e eo = rw (eq-eqb _ _ open-still, ← read, good, ← allowed, ← short, e) eo
