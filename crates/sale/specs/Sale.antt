-- May this hour be sold? The verdict on a solve: the first line of the rule that holds, and its place. Definitions only.
use Rattle.std.specs.Prelude.{ℕ, suc, ◌*◌, ◌≤◌, ◌<◌, ◌≡◌, cond, List, [], ◌∷◌, eqb, length, Float, Err, None, Ok, Option, Some}
use Rattle.layout.specs.declared.places.Layout.{Layout}
use Rattle.columns.specs.Columns.{zeros}
use Rattle.tolerance.specs.declared.Limits.{Limits}
use Rattle.excess.specs.Excess.{imbalance_of, excess_of}
use Rattle.link_rows.specs.LinkRows.{view}
use Rattle.repairs_shown.specs.Shown.{repair_shown}
use Rattle.determined.specs.Determined.{undetermined_of}
use Rattle.balances.specs.Balances.{unbalanced_of}
use Rattle.link_laws.specs.LinkLaws.{unsettled_of}
use Rattle.held_heads.specs.Held.{unheld_of}
use Rattle.drawn_laws.specs.DrawnLaws.{ill_drawn}
use Rattle.pressures_low.specs.Low.{low_of}
use Rattle.sheet.specs.Read.{read_of, Reading}
use Rattle.answers.specs.declared.Answer.{Answer}
use Rattle.answers.specs.Answers.{Lent, Solved}
use Rattle.solver.specs.Solve.{solve_of}
use Rattle.sale.specs.declared.judging.Verdict.{Verdict}

-- 0 at 0: it may be sold
abbrev pub sold : Verdict
sold = record { number = 0; place = 0 }

-- what a line found, else what the lines behind it come to
unfoldable pub told_of : Option ℕ → ℕ → Verdict → Verdict
told_of (Some place) number next = record { number = number; place = place }
told_of None number next = next

-- the first line that holds, the first being number n
unfoldable pub first_line : ℕ → List (Option ℕ) → Verdict
unfolding told_of
first_line n [] = sold
first_line n (f ∷ more) = told_of f n (first_line (suc n) more)

-- lines 2 to 8, of results and a record of so many trials
unfoldable pub rule : List ℕ → Layout → Limits → ℕ → List Float → List Float → List Float → List ℕ → List ℕ → List (Option ℕ)
rule s l limits trials h d q c r =
    repair_shown r trials
    ∷ undetermined_of s l q c
    ∷ unbalanced_of s l (imbalance_of s l d q (zeros 64)) limits.flow
    ∷ unsettled_of s l (view h q c (excess_of s l d q (zeros 64))) limits
    ∷ unheld_of s l h c limits.head
    ∷ ill_drawn s l h d limits.flow
    ∷ low_of s l h limits.pressure
    ∷ []

unfoldable pub judge_of : List ℕ → Layout → Limits → ℕ → List Float → List Float → List Float → List ℕ → List ℕ → Verdict
unfolding rule first_line
judge_of s l limits trials h d q c r = first_line 2 (rule s l limits trials h d q c r)

-- the columns have room for a layout, and the record for its trials
pub record Ample (l : Layout) (trials : ℕ) (h d q : List Float) (c r : List ℕ) : Type 0 where
  pub heads : l.nodes ≤ length h
  pub demands : l.nodes ≤ length d
  pub flows : l.links ≤ length q
  pub statuses : l.links ≤ length c
  pub few : trials < 65536
  pub entries : 4 * trials ≤ length r

-- of an answer 0 to a good sheet: the columns have room for its layout, and the record for its trials
pub record Backed (s : List ℕ) (a : Answer) (h d q : List Float) (c r : List ℕ) : Type 0 where
  pub room : (l : Layout) → read_of s ≡ Ok l → a.number ≡ 0 → Ample l a.trials h d q c r

-- line 1: the solve's number is not 0
abbrev pub unsold : Answer → Verdict
unsold a = record { number = 1; place = a.number }

-- the verdict on a solve, by what its sheet reads as
unfoldable pub verdict_by : List ℕ → Limits → Solved → Reading → Verdict
unfolding judge_of
verdict_by s limits o (Err r) = unsold o.answer
verdict_by s limits o (Ok l) =
    cond (eqb o.answer.number 0)
    (judge_of s l limits o.answer.trials o.lent.heads o.lent.demands o.lent.flows o.lent.statuses o.lent.entries)
    (unsold o.answer)

unfoldable pub verdict_of : List ℕ → Limits → Solved → Verdict
unfolding verdict_by
verdict_of s limits o = verdict_by s limits o (read_of s)

-- the solve, and the verdict on it
pub record Sale : Type 0 where
  pub answer : Answer
  pub verdict : Verdict
  pub lent : Lent

unfoldable pub sale_of : List ℕ → Limits → Lent → Sale
unfolding verdict_of
sale_of s limits b =
    let o = solve_of s b in
    record { answer = o.answer; verdict = verdict_of s limits o; lent = o.lent }
