-- Demand 3, where nothing is repaired: the solve is that of the solver that repairs nothing and stops at its first failed factorization. Assumes nothing.
use Prim.Native.Nat.{ℕ, zero, suc, ◌≤◌}
use mathlib.Core.Path.{◌≡◌, refl, sym, ◌∙◌}
use mathlib.Core.List.{List, [], ◌∷◌}
use mathlib.Core.Bool.{Bool, true, false, cond}
use native.Mathlib.Omega.{arith}
use lib.ListN.{length, get_or}
use lib.Ieee.{Float}
use Rattle.sheet.specs.Read.{read_of, Reading}
use Rattle.layout.specs.declared.places.Layout.{Layout}
use Rattle.linear.specs.Factorization.{factor_of, Factored}
use Rattle.numbering.specs.Numbering.{node_numbered}
use Rattle.assembly.specs.Assembly.{System}
use Rattle.state.specs.State.{State}
use Rattle.repair.specs.Repair.{ground_node, free, regulator_at, repair_at}
use Rattle.damping.specs.declared.steps.Damping.{Damping}
use Rattle.entries.specs.declared.Entry.{Entry}
use Rattle.entries.specs.declared.Entry.TheVariants.{Freed, Grounded, Singular, Wild, Stepped, Converged}
use Rattle.trial.specs.Trial.{Outcome, outcome, repair_of, no_repair, factored, system_of, trial_with}
use Rattle.entries.specs.Entries.{damping_start, going_of, counted, tallied, none, Going}
use Rattle.entries.specs.declared.Ended.{Ended}
use Rattle.entries.specs.declared.Ended.TheVariants.{Balanced, Failed, Strayed, Limit}
use Rattle.entries.specs.declared.Tally.{Tally}
use Rattle.runs.specs.Run.{then_run, run_with, finish}
use Rattle.answers.specs.Answers.{Lent, too_short, failed_of}
use Rattle.conclusion.specs.Conclusion.{unsolved, delivered, told}
use Rattle.solver.specs.Solve.{trials_of, start_of, run_of, solved_with, after_short, after_read, solve_with}
use Rattle.promises.specs.Repairs.{stop_node, stop_of, mends}
use Rattle.promises.specs.Statements.{UnmendedIsBare, UnmarkedIsBare}
use Rattle.promises.proofs.Never.{other, never}
use Rattle.promises.proofs.Counts.{solve_counts}
use Rattle.std.specs.Prelude.{Err, None, Ok, Option, Some}
use Rattle.std.proofs.Common.{Break, Continue}

-- ---- one trial

module _ (s : List ℕ) (l : Layout) (t : State) (v : ℕ) where
  marked_same : (b : Bool) → get_or t.grounded v false ≡ b → regulator_at s l t.statuses v ≡ None → mends (repair_of s l t v).entry ≡ false → repair_of s l t v ≡ no_repair s l t v
  unfolding repair_of repair_at free ground_node no_repair mends
  marked_same true g r = rw (r, g) (λ e. refl)
  marked_same false g r = rw (r, g) (λ e. never (sym e))

  found_same : (f : Option ℕ) → regulator_at s l t.statuses v ≡ f → mends (repair_of s l t v).entry ≡ false → repair_of s l t v ≡ no_repair s l t v
  unfolding repair_of repair_at free mends
  found_same (Some j) r = rw r (λ e. never (sym e))
  found_same None r = marked_same (get_or t.grounded v false) refl r

  repair_same : mends (repair_of s l t v).entry ≡ false → repair_of s l t v ≡ no_repair s l t v
  repair_same = found_same (regulator_at s l t.statuses v) refl

module _ (s : List ℕ) (l : Layout) (d : Damping) (t : State) where
  factored_same : (a : System) (w : List Float) (f : Factored) → mends (factored repair_of s l d t a w f).entry ≡ false → factored repair_of s l d t a w f ≡ factored no_repair s l d t a w f
  unfolding factored
  factored_same a w (Err u) e = repair_same s l t (node_numbered s l l.nodes u.0) e
  factored_same a w (Ok tt) e = refl

  trial_same : mends (trial_with repair_of s l d t).entry ≡ false → trial_with repair_of s l d t ≡ trial_with no_repair s l d t
  unfolding trial_with
  trial_same e =
      let a = system_of s l t in
      factored_same a (factor_of l.unknowns a.matrix).matrix (factor_of l.unknowns a.matrix).answer e

-- ---- a run

unfoldable unmended : List Entry → Bool
unmended [] = true
unmended (e ∷ es) = cond (mends e) false (unmended es)

first_unmended : (e : Entry) (es : List Entry) → unmended (e ∷ es) ≡ true → (mends e ≡ false) × (unmended es ≡ true)
unfolding unmended
first_unmended e es h = go (mends e) refl h
  where
    go : (b : Bool) → mends e ≡ b → cond b false (unmended es) ≡ true → (mends e ≡ false) × (unmended es ≡ true)
    go true p h = never h
    go false p h = (p, h)

run_same : (s : List ℕ) (l : Layout) (m : ℕ) (d : Damping) (t : State) → unmended (run_with repair_of s l m d t).entries ≡ true → run_with repair_of s l m d t ≡ run_with no_repair s l m d t
unfolding run_with then_run
run_same s l zero d t h = refl
run_same s l (suc m) d t h =
    go (trial_with repair_of s l d t) (trial_with no_repair s l d t) (going_of d (trial_with repair_of s l d t).entry) refl (run_same s l m) (trial_same s l d t) h
  where
    go : (o o' : Outcome) (g : Going) → going_of d o.entry ≡ g
        → ((d : Damping) (t : State) → unmended (run_with repair_of s l m d t).entries ≡ true → run_with repair_of s l m d t ≡ run_with no_repair s l m d t)
        → (mends o.entry ≡ false → o ≡ o')
        → unmended (then_run o.entry o.state g (run_with repair_of s l m)).entries ≡ true
        → then_run o.entry o.state g (run_with repair_of s l m) ≡ then_run o'.entry o'.state (going_of d o'.entry) (run_with no_repair s l m)
    go o o' (Continue d') e ih same h =
        let f = first_unmended o.entry (run_with repair_of s l m d' o.state).entries h in
        rw (← same f.0, e, ih d' o.state f.1)
    go o o' (Break z) e ih same h =
        let f = first_unmended o.entry [] h in
        rw (← same f.0, e)

-- ---- the tally tells whether an entry mends

record Least (t u : Tally) : Type 0 where
  freed : t.freed ≤ u.freed
  grounded : t.grounded ≤ u.grounded

least_counted : (t : Tally) (e : Entry) → Least t (counted t e)
unfolding counted
least_counted t (Freed i) = record { freed = omega arith; grounded = omega arith }
least_counted t (Grounded i) = record { freed = omega arith; grounded = omega arith }
least_counted t (Singular i) = record { freed = omega arith; grounded = omega arith }
least_counted t (Wild p) = record { freed = omega arith; grounded = omega arith }
least_counted t (Stepped d flip) = record { freed = omega arith; grounded = omega arith }
least_counted t (Converged flip) = record { freed = omega arith; grounded = omega arith }

least_tallied : (t : Tally) (es : List Entry) → Least t (tallied t es)
unfolding tallied
least_tallied t [] = record { freed = omega arith; grounded = omega arith }
least_tallied t (e ∷ es) =
    let a = least_counted t e in
    let b = least_tallied (counted t e) es in
    record { freed = omega arith; grounded = omega arith }

tally_unmended : (t : Tally) (es : List Entry) → (tallied t es).freed ≡ t.freed → (tallied t es).grounded ≡ t.grounded → unmended es ≡ true
unfolding tallied counted unmended mends
tally_unmended t [] f g = refl
tally_unmended t (Freed i ∷ es) f g = let b = least_tallied (counted t (Freed i)) es in absurd (let z : ⊥ = omega arith in z)
tally_unmended t (Grounded i ∷ es) f g = let b = least_tallied (counted t (Grounded i)) es in absurd (let z : ⊥ = omega arith in z)
tally_unmended t (Singular i ∷ es) f g = tally_unmended (counted t (Singular i)) es f g
tally_unmended t (Wild p ∷ es) f g = tally_unmended (counted t (Wild p)) es f g
tally_unmended t (Stepped d flip ∷ es) f g = tally_unmended (counted t (Stepped d flip)) es f g
tally_unmended t (Converged flip ∷ es) f g = tally_unmended (counted t (Converged flip)) es f g

-- ---- the whole solve

module _ (s : List ℕ) (l : Layout) (m : ℕ) (w : Lent) (t : State) (tally : Tally) (bytes : List ℕ) where
  told_freed : (z : Ended) → (told s l m w t tally bytes z).answer.freed ≡ tally.freed
  unfolding told delivered unsolved failed_of
  told_freed Balanced = refl
  told_freed (Failed n) = refl
  told_freed (Strayed p) = refl
  told_freed Limit = refl

  told_grounded : (z : Ended) → (told s l m w t tally bytes z).answer.grounded ≡ tally.grounded
  unfolding told delivered unsolved failed_of
  told_grounded Balanced = refl
  told_grounded (Failed n) = refl
  told_grounded (Strayed p) = refl
  told_grounded Limit = refl

module _ (s : List ℕ) (w : Lent) where
  solved_same : (l : Layout) → (solved_with repair_of s l w).answer.freed ≡ 0 → (solved_with repair_of s l w).answer.grounded ≡ 0 → solved_with repair_of s l w ≡ solved_with no_repair s l w
  unfolding solved_with run_of finish
  solved_same l f g =
      let r = run_of repair_of s l w.entries in
      let es = (run_with repair_of s l (trials_of s) damping_start (start_of s l)).entries in
      let p = run_same s l (trials_of s) damping_start (start_of s l)
      (tally_unmended none es
      (sym (told_freed s l (trials_of s) w r.state r.ran.tally r.bytes r.ran.ended) ∙ f)
      (sym (told_grounded s l (trials_of s) w r.state r.ran.tally r.bytes r.ran.ended) ∙ g)) in
      rw p

  short_same : (l : Layout) (f : Option ℕ) → (after_short repair_of s l w f).answer.freed ≡ 0 → (after_short repair_of s l w f).answer.grounded ≡ 0 → after_short repair_of s l w f ≡ after_short no_repair s l w f
  unfolding after_short
  short_same l (Some p) f g = refl
  short_same l None f g = solved_same l f g

  read_same : (r : Reading) → (after_read repair_of s w r).answer.freed ≡ 0 → (after_read repair_of s w r).answer.grounded ≡ 0 → after_read repair_of s w r ≡ after_read no_repair s w r
  unfolding after_read
  read_same (Err r) f g = refl
  read_same (Ok l) f g =
      short_same l (too_short l (trials_of s) (length w.heads) (length w.demands) (length w.flows) (length w.statuses) (length w.entries) (length w.scratch)) f g

-- Demand 3: an answer that counts no freed valve and no grounded node is that of the solver that repairs nothing, with the same results and the same record.
pub unmended_is_bare : UnmendedIsBare
unfolding solve_with
unmended_is_bare s w f g = read_same s w (read_of s) f g

-- The same by the bytes of the record: no VF and no GN stands in it.
pub unmarked_is_bare : UnmarkedIsBare
unmarked_is_bare s w f g = unmended_is_bare s w ((solve_counts s w).freed ∙ f) ((solve_counts s w).grounded ∙ g)

-- ---- the solver that repairs nothing

bare_stopped : (s : List ℕ) (l : Layout) (d : Damping) (t : State) (v : ℕ) (a : System) (w : List Float) (f : Factored) → stop_node s l f ≡ Some v → factored no_repair s l d t a w f ≡ outcome (Singular (record { 0 = v })) t
unfolding factored no_repair stop_node
bare_stopped s l d t v a w (Err u) e = let p : node_numbered s l l.nodes u.0 ≡ v = cc in rw p
bare_stopped s l d t v a w (Ok tt) e = other (cc)

-- It stops at its first failed factorization: a run of it that comes to one has that entry and no more.
pub bare_stops : (s : List ℕ) (l : Layout) (m : ℕ) (d : Damping) (t : State) (v : ℕ) → stop_of s l t ≡ Some v
    → run_with no_repair s l (suc m) d t ≡ record { entries = Singular (record { 0 = v }) ∷ []; ended = Failed (record { 0 = v }); state = t }
unfolding run_with then_run trial_with stop_of going_of
bare_stops s l m d t v e =
    let a = system_of s l t in
    let p = bare_stopped s l d t v a (factor_of l.unknowns a.matrix).matrix (factor_of l.unknowns a.matrix).answer e in
    rw p
