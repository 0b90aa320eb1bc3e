-- The verdict over plain variables: the first line that holds, and what a solve that answered 0 leaves room for. Assumes nothing.
use Prim.Native.Nat.{ℕ, suc, ◌*◌, ◌≤◌, ◌<◌}
use mathlib.Core.Path.{◌≡◌, refl, sym, ap, ◌∙◌}
use mathlib.Core.Bool.{Bool, true, false, cond}
use mathlib.Core.List.{List}
use native.Mathlib.Omega.{arith}
use lib.Dec.{eqb}
use lib.ListN.{length}
use lib.Ieee.{Float}
use Rattle.layout.specs.declared.places.Layout.{Layout}
use Rattle.tolerance.specs.declared.Limits.{Limits}
use Rattle.columns.specs.Columns.{zeros}
use Rattle.excess.specs.Excess.{imbalance_of, excess_of}
use Rattle.link_rows.specs.LinkRows.{view}
use Rattle.repairs_shown.specs.Shown.{repair_shown}
use Rattle.determined.specs.Determined.{undetermined_of}
use Rattle.balances.specs.Balances.{unbalanced_of}
use Rattle.link_laws.specs.LinkLaws.{unsettled_of}
use Rattle.held_heads.specs.Held.{unheld_of}
use Rattle.drawn_laws.specs.DrawnLaws.{ill_drawn}
use Rattle.pressures_low.specs.Low.{low_of}
use Rattle.sheet.specs.Read.{read_of, Reading}
use Rattle.refusals.specs.Refusals.{number_of, place_of}
use Rattle.refusals.specs.declared.refusals.Refusal.{Refusal}
use Rattle.answers.specs.declared.Answer.{Answer}
use Rattle.answers.specs.Answers.{Lent, Solved, Enough, too_short, refused_of, failed_of}
use Rattle.answers.proofs.Laws.{enough}
use Rattle.entries.specs.Entries.{none}
use Rattle.trial.specs.Trial.{repair_of}
use Rattle.solver.specs.Solve.{trials_of, after_short, after_read, solve_with, solve_of}
use Rattle.solver.proofs.Laws.{few_trials, solve_refused, solve_good}
use Rattle.solver.proofs.Trials.{allowed_trials}
use Rattle.sale.specs.Sale.{sold, told_of, first_line, rule, judge_of, Ample, Backed, unsold, verdict_by, verdict_of, Sale, sale_of}
use Rattle.sale.specs.declared.judging.Verdict.{Verdict}
use Rattle.std.specs.Prelude.{Err, None, Ok, Option, Some}

-- ---- the lines in order

-- line n holds, and none before it
module _ (s : List ℕ) (l : Layout) (limits : Limits) (trials : ℕ) (h d q : List Float) (c r : List ℕ) (v : Verdict) (place : ℕ) where
  abbrev At : ℕ → Type 0
  At n = v ≡ record { number = n; place = place }

  abbrev Judged : Type 0
  Judged = v ≡ judge_of s l limits trials h d q c r

  pub line_2 : repair_shown r trials ≡ Some place → At 2 → Judged
  unfolding judge_of rule first_line told_of
  line_2 e2 at = rw (at, e2)

  pub line_3 : repair_shown r trials ≡ None → undetermined_of s l q c ≡ Some place → At 3 → Judged
  unfolding judge_of rule first_line told_of
  line_3 e2 e3 at = rw (at, e2, e3)

  pub line_4 : repair_shown r trials ≡ None → undetermined_of s l q c ≡ None → unbalanced_of s l (imbalance_of s l d q (zeros 64)) limits.flow ≡ Some place → At 4 → Judged
  unfolding judge_of rule first_line told_of
  line_4 e2 e3 e4 at = rw (at, e2, e3, e4)

  pub line_5 : repair_shown r trials ≡ None → undetermined_of s l q c ≡ None → unbalanced_of s l (imbalance_of s l d q (zeros 64)) limits.flow ≡ None → unsettled_of s l (view h q c (excess_of s l d q (zeros 64))) limits ≡ Some place → At 5 → Judged
  unfolding judge_of rule first_line told_of
  line_5 e2 e3 e4 e5 at = rw (at, e2, e3, e4, e5)

  pub line_6 : repair_shown r trials ≡ None → undetermined_of s l q c ≡ None → unbalanced_of s l (imbalance_of s l d q (zeros 64)) limits.flow ≡ None → unsettled_of s l (view h q c (excess_of s l d q (zeros 64))) limits ≡ None → unheld_of s l h c limits.head ≡ Some place → At 6 → Judged
  unfolding judge_of rule first_line told_of
  line_6 e2 e3 e4 e5 e6 at = rw (at, e2, e3, e4, e5, e6)

  pub line_7 : repair_shown r trials ≡ None → undetermined_of s l q c ≡ None → unbalanced_of s l (imbalance_of s l d q (zeros 64)) limits.flow ≡ None → unsettled_of s l (view h q c (excess_of s l d q (zeros 64))) limits ≡ None → unheld_of s l h c limits.head ≡ None → ill_drawn s l h d limits.flow ≡ Some place → At 7 → Judged
  unfolding judge_of rule first_line told_of
  line_7 e2 e3 e4 e5 e6 e7 at = rw (at, e2, e3, e4, e5, e6, e7)

  pub line_8 : repair_shown r trials ≡ None → undetermined_of s l q c ≡ None → unbalanced_of s l (imbalance_of s l d q (zeros 64)) limits.flow ≡ None → unsettled_of s l (view h q c (excess_of s l d q (zeros 64))) limits ≡ None → unheld_of s l h c limits.head ≡ None → ill_drawn s l h d limits.flow ≡ None → low_of s l h limits.pressure ≡ Some place → At 8 → Judged
  unfolding judge_of rule first_line told_of
  line_8 e2 e3 e4 e5 e6 e7 e8 at = rw (at, e2, e3, e4, e5, e6, e7, e8)

  pub no_line : repair_shown r trials ≡ None → undetermined_of s l q c ≡ None → unbalanced_of s l (imbalance_of s l d q (zeros 64)) limits.flow ≡ None → unsettled_of s l (view h q c (excess_of s l d q (zeros 64))) limits ≡ None → unheld_of s l h c limits.head ≡ None → ill_drawn s l h d limits.flow ≡ None → low_of s l h limits.pressure ≡ None → v ≡ sold → Judged
  unfolding judge_of rule first_line told_of
  no_line e2 e3 e4 e5 e6 e7 e8 at = rw (at, e2, e3, e4, e5, e6, e7, e8)

-- what a call told of lines 4 and 5
module _ (s : List ℕ) (l : Layout) (limits : Limits) (h d q : List Float) (c : List ℕ) (found told : Option ℕ) (is : found ≡ told) where
  pub unbalanced_told : (sums : List Float) → sums ≡ imbalance_of s l d q (zeros 64) → found ≡ unbalanced_of s l sums limits.flow → unbalanced_of s l (imbalance_of s l d q (zeros 64)) limits.flow ≡ told
  unbalanced_told sums e k = rw (← e, ← k) is

  pub unsettled_told : (excess : List Float) → excess ≡ excess_of s l d q (zeros 64) → found ≡ unsettled_of s l (view h q c excess) limits → unsettled_of s l (view h q c (excess_of s l d q (zeros 64))) limits ≡ told
  unsettled_told excess e k = rw (← e, ← k) is

-- ---- the verdict on an answer to a sheet that was read

module _ (s : List ℕ) (limits : Limits) (a : Answer) (b : Lent) (l : Layout) where
  pub decide_unsold : (v : Verdict) → eqb a.number 0 ≡ false → v ≡ unsold a → v ≡ verdict_by s limits (record { answer = a; lent = b }) (Ok l)
  unfolding verdict_by
  decide_unsold v n k = rw n k

  pub decide_judged : (v : Verdict) → eqb a.number 0 ≡ true → v ≡ judge_of s l limits a.trials b.heads b.demands b.flows b.statuses b.entries
      → v ≡ verdict_by s limits (record { answer = a; lent = b }) (Ok l)
  unfolding verdict_by
  decide_judged v n k = rw n k

-- ---- what a solve leaves room for

short_number : (s : List ℕ) (l : Layout) (b : Lent) (f : Option ℕ) → (after_short repair_of s l b f).answer.number ≡ 0 → f ≡ None
unfolding after_short refused_of failed_of
short_number s l b (Some place) e = absurd (let z : ⊥ = omega arith in z)
short_number s l b None e = refl

pub solve_enough : (s : List ℕ) (l : Layout) (b : Lent) → read_of s ≡ Ok l → (solve_of s b).answer.number ≡ 0 → Enough l (trials_of s) b
unfolding solve_with after_read
solve_enough s l b good zero =
    enough l (trials_of s) b
    (short_number s l b (too_short l (trials_of s) (length b.heads) (length b.demands) (length b.flows) (length b.statuses) (length b.entries) (length b.scratch)) (rw good at zero))

-- the columns after a solve are as long as they were lent
pub backed : (s : List ℕ) (b : Lent) (a : Answer) (h d q : List Float) (c r : List ℕ) → a ≡ (solve_of s b).answer
    → length h ≡ length b.heads → length d ≡ length b.demands → length q ≡ length b.flows → length c ≡ length b.statuses → length r ≡ length b.entries
    → Backed s a h d q c r
backed s b a h d q c r e lh ld lq lc lr =
    record {
      room = λ l good zero.
          let w = solve_enough s l b good (sym (ap (λ (x : Answer). x.number) e) ∙ zero) in
          let few : a.trials ≤ trials_of s = omega (arith, ap (λ (x : Answer). x.trials) e, allowed_trials repair_of s l b good) in
          record {
            heads = omega (arith, w.heads);
            demands = omega (arith, w.demands);
            flows = omega (arith, w.flows);
            statuses = omega (arith, w.statuses);
            few = omega (arith, few_trials s l good);
            entries = omega (arith, w.entries);
          };
    }

-- the solve of a sheet that was read is its solve
pub solved_as : (s : List ℕ) (l : Layout) (b : Lent) (o : Solved) → read_of s ≡ Ok l → o ≡ after_read repair_of s b (Ok l) → o ≡ solve_of s b
solved_as s l b o good e = solve_good repair_of s b (read_of s) refl o l good e

pub sale_of_lem : (s : List ℕ) (l : Layout) (limits : Limits) (b b' : Lent) (a : Answer) (v : Verdict) → read_of s ≡ Ok l → record { answer = a; lent = b' } ≡ solve_of s b
    → v ≡ verdict_by s limits (record { answer = a; lent = b' }) (Ok l) → ◌≡◌ {A = Sale} (record { answer = a; verdict = v; lent = b' }) (sale_of s limits b)
unfolding sale_of verdict_of
sale_of_lem s l limits b b' a v good e k = rw (← e, good, k)

pub sale_refused : (s : List ℕ) (limits : Limits) (b : Lent) (reading : Reading) (a : Answer) (v : Verdict) (r : Refusal) → reading ≡ read_of s → reading ≡ Err r → a ≡ failed_of (number_of r) (place_of r) none
    → v ≡ unsold a → ◌≡◌ {A = Sale} (record { answer = a; verdict = v; lent = b }) (sale_of s limits b)
unfolding sale_of verdict_of verdict_by
sale_refused s limits b reading a v r read e ea ev = rw (← solve_refused repair_of s b reading read a r e ea, ← read, e, ev)
