-- Demand 3 by the bytes of the record: the bound on repairs, and "grounded once". Assumes nothing.
use Prim.Native.Nat.{ℕ, zero, suc, ◌+◌, ◌≤◌, ◌<◌}
use mathlib.Core.Path.{◌≡◌, refl, sym, ap, ◌∙◌}
use mathlib.Core.Bool.{true, ◌||◌}
use mathlib.Core.List.{List, [], ◌∷◌}
use native.Mathlib.Omega.{arith}
use lib.ListN.{length, get_or, drop, length-drop}
use lib.Seq.{get_or-drop}
use Rattle.layout.specs.declared.places.Layout.{Layout}
use Rattle.entries.specs.Entries.{no_entry}
use Rattle.entries.specs.declared.Entry.{Entry}
use Rattle.entries.specs.declared.Entry.TheVariants.{Freed, Grounded, Singular, Wild, Stepped, Converged}
use Rattle.marks.specs.Marks.{mark_of}
use Rattle.trial.specs.Trial.{repair_of}
use Rattle.answers.specs.Answers.{Lent, failed_of, refused_of}
use Rattle.solver.specs.Solve.{solve_of}
use Rattle.promises.specs.Repairs.{fails}
use Rattle.promises.specs.Trials.{run_in}
use Rattle.promises.specs.Bound.{failing, fails_at}
use Rattle.promises.specs.Solves.{Runs}
use Rattle.promises.specs.Marks.{marked, number_at, Shown}
use Rattle.promises.specs.Statements.{RepairsEndShown, GroundedOnceShown}
use Rattle.promises.proofs.BoundOfSolve.{solve_repairs_end}
use Rattle.promises.proofs.GroundedOnce.{solve_grounded_once}
use Rattle.promises.proofs.Solves.{comes, ways}
use Rattle.promises.proofs.Counts.{has, shows, entry_shown, number_shown, gn_grounded, trials_are}
use Rattle.promises.proofs.Grounding.{gn_number}

-- ---- the bound

fails_has : (e : Entry) → (has 86 70 e || has 71 78 e || has 83 71 e) ≡ fails e
unfolding fails has mark_of
fails_has (Freed i) = refl
fails_has (Grounded i) = refl
fails_has (Singular i) = refl
fails_has (Wild p) = refl
fails_has (Stepped d flip) = refl
fails_has (Converged flip) = refl

pub fails_shown : (bytes : List ℕ) (i : ℕ) (e : Entry) → Shown bytes i e → fails_at bytes i ≡ fails e
unfolding fails_at
fails_shown bytes i e w = rw (shows bytes i e w 86 70, shows bytes i e w 71 78, shows bytes i e w 83 71) (fails_has e)

-- so many entries that fail, one after the other from the first on
pub failing_least : (es : List Entry) (c : ℕ) → c ≤ length es → ((j : ℕ) → j < c → fails (get_or es j no_entry) ≡ true) → c ≤ failing es
unfolding failing
failing_least es zero h f = omega arith
failing_least [] (suc c) h f = absurd (omega (arith, h))
failing_least (e ∷ es) (suc c) h f =
    let r = failing_least es c (omega (arith, h)) (λ j z. f (suc j) (omega (arith, z))) in
    rw (f 0 (omega arith)) (omega (arith, r))

-- No more than V + U + 1 entries with the letters VF, GN or SG stand one behind the other in a record.
pub repairs_end_shown : RepairsEndShown
repairs_end_shown s x l w i c h f =
    let es = (run_in s l).entries in
    let n = trials_are s x l w in
    let most = solve_repairs_end s l w.read i in
    let least = failing_least (drop i es) c (omega (arith, length-drop i es, h, n))
    (λ j z. ap fails (get_or-drop i es j no_entry) ∙ sym (fails_shown (solve_of s x).lent.entries (i + j) (get_or es (i + j) no_entry) (entry_shown s x l w (i + j) (omega (arith, z, h, n)))) ∙ f j z) in
    omega (arith, most, least)

-- ---- grounded once

no_trials : (number place : ℕ) (x : Lent) (j : ℕ) → j < (refused_of number place x).answer.trials → ⊥
unfolding refused_of failed_of
no_trials number place x j h = omega (arith, h)

module _ (s : List ℕ) (x : Lent) (l : Layout) (w : Runs s x l) where
  once_shown : (i j : ℕ) → i < j → j < (solve_of s x).answer.trials → marked 71 78 (solve_of s x).lent.entries i ≡ true → marked 71 78 (solve_of s x).lent.entries j ≡ true
      → number_at (solve_of s x).lent.entries i ≡ number_at (solve_of s x).lent.entries j → ⊥
  once_shown i j z h a b e =
      let n = trials_are s x l w in
      let hi : i < length (run_in s l).entries = omega (arith, z, h, n) in
      let hj : j < length (run_in s l).entries = omega (arith, h, n) in
      let u = gn_grounded s x l w i hi a in
      let v = gn_grounded s x l w j hj b in
      let p = number_shown s x l w i hi ∙ ap (λ (y : Entry). (mark_of y).number) u.1 ∙ gn_number u.0 in
      let q = number_shown s x l w j hj ∙ ap (λ (y : Entry). (mark_of y).number) v.1 ∙ gn_number v.0 in
      let same : v.0.0 ≡ u.0.0 = sym q ∙ sym e ∙ p in
      solve_grounded_once s l w.read u.0 i j z hj u.1 (v.1 ∙ ap (λ (k : ℕ). Grounded (record { 0 = k })) same)

-- No two GN entries of a record have the same number.
pub grounded_once_shown : GroundedOnceShown
grounded_once_shown s x =
    ways repair_of s x
    (λ o. (i j : ℕ) → i < j → j < o.answer.trials → marked 71 78 o.lent.entries i ≡ true → marked 71 78 o.lent.entries j ≡ true → number_at o.lent.entries i ≡ number_at o.lent.entries j → ⊥)
    (λ r e. none-refused _ _) (λ l place e q. none-refused 5 place) (λ l w. rw (comes repair_of s x l w) at (once_shown s x l w))
  where
    none-refused : (number place : ℕ) (i j : ℕ) → i < j → j < (refused_of number place x).answer.trials
        → marked 71 78 (refused_of number place x).lent.entries i ≡ true → marked 71 78 (refused_of number place x).lent.entries j ≡ true
        → number_at (refused_of number place x).lent.entries i ≡ number_at (refused_of number place x).lent.entries j → ⊥
    none-refused number place i j z h a b e = no_trials number place x j h
