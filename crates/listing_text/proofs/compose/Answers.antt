-- `listing_text::compose` meets its contract, for any sheet. Assumes nothing.
use native.Mathlib.Omega.{arith}
use mathlib.Core.Path.{sym, subst}
use Prim.Native.Nat.{◌≤◌}
use borrow.Author.Rules.{rules}
use Rattle.columns.specs.Columns.{zeros}
use Rattle.answers.specs.Answers.{Solved}
use Rattle.trial.specs.Trial.{repair_of}
use Rattle.listing_text.specs.Listing.{blank}
use Rattle.solver.proofs.Trials.{solve_trials}
use Rattle.listing_text.proofs.Told.{listed}
use Rattle.listing_text.proofs.compose.Goals as goal

pub tell-requires-clause-trials_bound : goal.tell-requires-clause-trials_bound
tell-requires-clause-trials_bound c =
    let few = solve_trials repair_of _ _ in
    (subst (λ (o : Solved). o.answer.trials ≤ 200) (sym c.solve-a.ensures) few, omega (arith, c.solve-a.auto), omega arith)

pub tell-requires-clause-in_bounds : goal.tell-requires-clause-in_bounds
tell-requires-clause-in_bounds c = omega (arith, c.solve-a.auto)

pub returns-clause-text : goal.returns-clause-text
unfolding zeros blank
returns-clause-text c =
    let all = listed _ _ c.solve-a.ensures c.tell.ensures.put in
    all.0

pub returns-clause-end : goal.returns-clause-end
unfolding zeros blank
returns-clause-end c =
    let all = listed _ _ c.solve-a.ensures c.tell.ensures.put in
    all.1

pub returns-clause-few : goal.returns-clause-few
unfolding zeros blank
returns-clause-few c =
    c.tell.ensures.upper_bound
