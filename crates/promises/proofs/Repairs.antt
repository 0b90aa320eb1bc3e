-- Demand 3, which repair. Assumes nothing.
use Prim.Native.Nat.{ℕ, zero, suc, ◌+◌, ◌≤◌, ◌<◌}
use mathlib.Core.Path.{◌≡◌, refl, sym, ap, ◌∙◌}
use mathlib.Core.List.{List}
use mathlib.Core.Bool.{Bool, true, false, cond, ◌&&◌}
use mathlib.Core.Logic.{⊎_elim}
use native.Mathlib.Nat.{eq-or-lt_of_le}
use native.Mathlib.Omega.{arith}
use borrow.Author.Tests.{eqb-true}
use lib.Dec.{eqb}
use lib.ListN.{get_or}
use lib.Ieee.{Float}
use Rattle.layout.specs.declared.places.Layout.{Layout}
use Rattle.records.specs.Records.{options_of}
use Rattle.records.specs.declared.records.Options.{Options}
use Rattle.linear.specs.Factorization.{factor_of, Factored}
use Rattle.substitution.specs.Substitution.{solved}
use Rattle.numbering.specs.Numbering.{node_numbered}
use Rattle.damping.specs.Damping.{converged_of, relative_change}
use Rattle.links.specs.Links.{regulator}
use Rattle.assembly.specs.Assembly.{System}
use Rattle.state.specs.State.{State, solved_heads}
use Rattle.tanks.specs.Tanks.{tank_links_of}
use Rattle.drawn.specs.Drawn.{draws, drawn_of}
use Rattle.wild.specs.Wild.{wild_place}
use Rattle.update.specs.Update.{basis, update_of}
use Rattle.update.specs.declared.Stats.{Stats}
use Rattle.repair.specs.Repair.{touches, regulates_at, regulator_from, regulator_at, ground_node, free, repair_at}
use Rattle.entries.specs.declared.Entry.{Entry}
use Rattle.entries.specs.declared.Entry.TheVariants.{Freed, Grounded, Singular, Stepped, Converged}
use Rattle.damping.specs.declared.steps.Damping.{Damping}
use Rattle.repair.proofs.Laws.{regulator_below, regulator_is, repair-frees, repair-grounds, repair-singular}
use Rattle.trial.specs.Trial.{Outcome, outcome, repair_of, judged, step_entry, step_of, factored, system_of, factors_of, trial_with, trial_of}
use Rattle.promises.specs.Repairs.{stop_node, stop_of, Lowest, NoneAt, Frees, Grounds, Refuses, freed_in, grounded_in, fails, Spared}
use Rattle.promises.specs.Statements.{TrialFrees, TrialGrounds, TrialRefuses, FreedOnly, GroundedOnly, RefusedOnly, TrialSpares}
use Rattle.promises.proofs.Never.{other, never}
use Rattle.std.specs.Prelude.{Err, None, Ok, Option, Some}
use Rattle.causes.specs.Causes.{Flip}

-- ---- the search finds the lowest-numbered

module _ (s : List ℕ) (l : Layout) (codes : List ℕ) (node : ℕ) where
  passed : (k i j : ℕ) → regulator_from s l codes node k i ≡ Some j → (m : ℕ) → i ≤ m → m < j → regulates_at s l codes node m ≡ false
  unfolding regulator_from
  passed zero i j e m a b = other (cc)
  passed (suc k) i j e m a b = go (regulates_at s l codes node i) refl (passed k (suc i) j) e
    where
      go : (t : Bool) → regulates_at s l codes node i ≡ t → (regulator_from s l codes node k (suc i) ≡ Some j → (m : ℕ) → suc i ≤ m → m < j → regulates_at s l codes node m ≡ false)
          → cond t (Some i) (regulator_from s l codes node k (suc i)) ≡ Some j → regulates_at s l codes node m ≡ false
      go true p ih e = absurd (let q : i ≡ j = cc in let y : ⊥ = omega arith in y)
      go false p ih e = ⊎_elim (λ (q : i ≡ m). rw (← q) p) (λ (q : i < m). ih e m q b) (eq-or-lt_of_le a)

  none_from : (k i : ℕ) → regulator_from s l codes node k i ≡ None → (m : ℕ) → i ≤ m → m < i + k → regulates_at s l codes node m ≡ false
  unfolding regulator_from
  none_from zero i e m a b = absurd (let y : ⊥ = omega arith in y)
  none_from (suc k) i e m a b = go (regulates_at s l codes node i) refl (none_from k (suc i)) e
    where
      go : (t : Bool) → regulates_at s l codes node i ≡ t → (regulator_from s l codes node k (suc i) ≡ None → (m : ℕ) → suc i ≤ m → m < suc i + k → regulates_at s l codes node m ≡ false)
          → cond t (Some i) (regulator_from s l codes node k (suc i)) ≡ None → regulates_at s l codes node m ≡ false
      go true p ih e = other (cc)
      go false p ih e = ⊎_elim (λ (q : i ≡ m). rw (← q) p) (λ (q : i < m). ih e m q (omega arith)) (eq-or-lt_of_le a)

  -- The regulator that a trial looks for is the lowest-numbered Active PRV or PSV touching the node, where there is one; it finds none only where there is none.
  pub lowest : (j : ℕ) → regulator_at s l codes node ≡ Some j → Lowest s l codes node j
  unfolding regulator_at
  lowest j e = record { one = regulator_below s l codes node j e; is = regulator_is s l codes node j e; first = λ i z. passed l.links 0 j e i (omega arith) z }

  pub none_at : regulator_at s l codes node ≡ None → NoneAt s l codes node
  unfolding regulator_at
  none_at e = record { none = λ i z. none_from l.links 0 e i (omega arith) (omega arith) }

  pub found : (j : ℕ) → Lowest s l codes node j → regulator_at s l codes node ≡ Some j
  found j w = go (regulator_at s l codes node) refl
    where
      go : (f : Option ℕ) → regulator_at s l codes node ≡ f → f ≡ Some j
      go None e = never (sym ((none_at e).none j w.one) ∙ w.is)
      go (Some i) e =
          let u = lowest i e in
          let p : (i < j → ⊥) = λ z. never (sym (w.first i z) ∙ u.is) in
          let q : (j < i → ⊥) = λ z. never (sym (u.first j z) ∙ w.is) in
          let same : i ≡ j = omega (arith, p, q) in
          ap Some same

  pub found_none : NoneAt s l codes node → regulator_at s l codes node ≡ None
  found_none w = go (regulator_at s l codes node) refl
    where
      go : (f : Option ℕ) → regulator_at s l codes node ≡ f → f ≡ None
      go None e = refl
      go (Some i) e = let u = lowest i e in never (sym (w.none i u.one) ∙ u.is)

both_true : (a b : Bool) → (a && b) ≡ true → (a ≡ true) × (b ≡ true)
both_true true b e = (refl, e)
both_true false b e = never e

-- A link that regulates at a node is a PRV or PSV, it touches the node, and it is Active (2).
pub regulates : (s : List ℕ) (l : Layout) (codes : List ℕ) (node j : ℕ) → regulates_at s l codes node j ≡ true
    → (regulator s l j ≡ true) × (touches s l node j ≡ true) × (get_or codes j 0 ≡ 2)
unfolding regulates_at
regulates s l codes node j e =
    let a = both_true (regulator s l j) (touches s l node j && eqb (get_or codes j 0) 2) e in
    let b = both_true (touches s l node j) (eqb (get_or codes j 0) 2) a.1 in
    (a.0, b.0, eqb-true (get_or codes j 0) 2 b.1)

-- ---- the ways of a trial

ground_fails : (b : Bool) (codes : List ℕ) (marks : List Bool) (node : ℕ) → fails (ground_node b codes marks node).entry ≡ true
unfolding ground_node fails
ground_fails true codes marks node = refl
ground_fails false codes marks node = refl

free_fails : (f : Option ℕ) (codes : List ℕ) (marks : List Bool) (node : ℕ) → fails (free f codes marks node).entry ≡ true
unfolding free fails
free_fails (Some j) codes marks node = refl
free_fails None codes marks node = ground_fails (get_or marks node false) codes marks node

judged_steps : (o : Options) (d : Damping) (m : Stats) (flip : Flip) → fails (judged o d m flip) ≡ false
unfolding judged fails
judged_steps o d m flip = go (converged_of (relative_change m.moved m.total o.accuracy) o.accuracy m.changed m.largest o.unit o.change) _
  where
    go : (b : Bool) (x : Damping) → fails (cond b (Converged flip) (Stepped x flip)) ≡ false
    go true x = refl
    go false x = refl

entry_steps : (f : Option ℕ) (o : Options) (d : Damping) (m : Stats) (flip : Flip) → fails (step_entry f o d m flip) ≡ false
unfolding step_entry fails
entry_steps (Some p) o d m flip = refl
entry_steps None o d m flip = judged_steps o d m flip

module _ (s : List ℕ) (l : Layout) (d : Damping) (t : State) where
  -- what a step comes to is an entry: whatever holds of every such entry holds of it
  pub step_entry_lem : (g y x : List Float) (P : Entry → Type 0) → ((h q f : List Float) (m : Stats) (flip : Flip) → P (step_entry (wild_place l h q f) (options_of s) d m flip)) → P (step_of s l d t g y x).entry
  unfolding step_of
  step_entry_lem g y x P each =
      let h = solved_heads s l x l.nodes t.heads in
      let u = update_of s l (basis h g y d.factor) t.flows t.statuses in
      let f = drawn_of s l h d.factor (tank_links_of s l h u.flows t.demands u.codes).demands (draws t.drawn u.updated.stats) in
      each h u.flows f.drawn f.stats u.updated.flip

  -- a step is no failure
  pub step_holds : (g y x : List Float) → fails (step_of s l d t g y x).entry ≡ false
  step_holds g y x = step_entry_lem g y x (λ e. fails e ≡ false) (λ h q f m flip. entry_steps (wild_place l h q f) (options_of s) d m flip)

  stopped : (v : ℕ) (a : System) (z : List Float) (f : Factored) → stop_node s l f ≡ Some v → factored repair_of s l d t a z f ≡ repair_of s l t v
  unfolding factored stop_node
  stopped v a z (Err u) e = let p : node_numbered s l l.nodes u.0 ≡ v = cc in rw p
  stopped v a z (Ok tt) e = other (cc)

  stops : (v : ℕ) → stop_of s l t ≡ Some v → trial_of s l d t ≡ repair_of s l t v
  unfolding trial_with stop_of
  stops v e = let a = system_of s l t in stopped v a (factor_of l.unknowns a.matrix).matrix (factor_of l.unknowns a.matrix).answer e

  -- where the factorization stops, the trial fails
  pub stop_fails : (v : ℕ) → stop_of s l t ≡ Some v → fails (trial_of s l d t).entry ≡ true
  unfolding repair_of repair_at
  stop_fails v e = rw (stops v e) (free_fails (regulator_at s l t.statuses v) t.statuses t.grounded v)

  done : (a : System) (z : List Float) (f : Factored) → stop_node s l f ≡ None → factored repair_of s l d t a z f ≡ step_of s l d t a.g a.y (solved z l.unknowns a.rhs)
  unfolding factored stop_node
  done a z (Err u) e = other (cc)
  done a z (Ok tt) e = refl

  steps : stop_of s l t ≡ None → trial_of s l d t ≡ step_of s l d t (system_of s l t).g (system_of s l t).y (solved (factors_of s l t) l.unknowns (system_of s l t).rhs)
  unfolding trial_with stop_of factors_of
  steps e = let a = system_of s l t in done a (factor_of l.unknowns a.matrix).matrix (factor_of l.unknowns a.matrix).answer e

-- Demand 3: when a factorization fails at a node, the lowest-numbered Active PRV or PSV touching it is freed, and nothing else changes.
pub trial_frees : TrialFrees
unfolding repair_of
trial_frees s l d t j w = stops s l d t w.node w.stops ∙ rw (← repair-frees s l t.statuses w.node t.grounded j (found s l t.statuses w.node j w.lowest))

-- If none touches it, the node is grounded, and nothing else changes.
pub trial_grounds : TrialGrounds
unfolding repair_of
trial_grounds s l d t v w = stops s l d t v w.stops ∙ rw (← repair-grounds s l t.statuses v t.grounded (found_none s l t.statuses v w.none) w.yet)

-- If it is grounded already, the solve is refused naming it, and nothing changes.
pub trial_refuses : TrialRefuses
unfolding repair_of
trial_refuses s l d t v w = stops s l d t v w.stops ∙ rw (← repair-singular s l t.statuses v t.grounded (found_none s l t.statuses v w.none) w.already)

module _ (s : List ℕ) (l : Layout) (d : Damping) (t : State) where
  -- whatever holds of each of the four ways holds of a trial: three repairs, and the step by the state's own system
  pub each_way : (P : Outcome → Type 0)
      → ((j : ℕ) → Frees s l t j → P (outcome (Freed (record { 0 = j })) (freed_in t j)))
      → ((v : ℕ) → Grounds s l t v → P (outcome (Grounded (record { 0 = v })) (grounded_in t v)))
      → ((v : ℕ) → Refuses s l t v → P (outcome (Singular (record { 0 = v })) t))
      → P (step_of s l d t (system_of s l t).g (system_of s l t).y (solved (factors_of s l t) l.unknowns (system_of s l t).rhs))
      → P (trial_of s l d t)
  each_way P free ground_node refuse step = go (stop_of s l t) refl
    where
      marked : (v : ℕ) → stop_of s l t ≡ Some v → regulator_at s l t.statuses v ≡ None → (b : Bool) → get_or t.grounded v false ≡ b → P (trial_of s l d t)
      marked v e r true g = let w : Refuses s l t v = record { stops = e; none = none_at s l t.statuses v r; already = g } in rw (trial_refuses s l d t v w) (refuse v w)
      marked v e r false g = let w : Grounds s l t v = record { stops = e; none = none_at s l t.statuses v r; yet = g } in rw (trial_grounds s l d t v w) (ground_node v w)

      freed : (v : ℕ) → stop_of s l t ≡ Some v → (f : Option ℕ) → regulator_at s l t.statuses v ≡ f → P (trial_of s l d t)
      freed v e (Some j) r = let w : Frees s l t j = record { node = v; stops = e; lowest = lowest s l t.statuses v j r } in rw (trial_frees s l d t j w) (free j w)
      freed v e None r = marked v e r (get_or t.grounded v false) refl

      go : (f : Option ℕ) → stop_of s l t ≡ f → P (trial_of s l d t)
      go (Some v) e = freed v e (regulator_at s l t.statuses v) refl
      go None e = rw (steps s l d t e) step

  -- the same where it matters not by which system the step goes
  pub ways : (P : Outcome → Type 0)
      → ((j : ℕ) → Frees s l t j → P (outcome (Freed (record { 0 = j })) (freed_in t j)))
      → ((v : ℕ) → Grounds s l t v → P (outcome (Grounded (record { 0 = v })) (grounded_in t v)))
      → ((v : ℕ) → Refuses s l t v → P (outcome (Singular (record { 0 = v })) t))
      → ((g y x : List Float) → P (step_of s l d t g y x))
      → P (trial_of s l d t)
  ways P free ground_node refuse step = each_way P free ground_node refuse (step (system_of s l t).g (system_of s l t).y (solved (factors_of s l t) l.unknowns (system_of s l t).rhs))

-- No other valve is ever freed, no other node grounded or refused.
pub freed_only : FreedOnly
unfolding fails
freed_only s l d t j =
    ways s l d t (λ o. o.entry ≡ Freed j → Frees s l t j.0)
    (λ i w e. let p : i ≡ j.0 = cc in rw (← p) w)
    (λ v w e. other (cc)) (λ v w e. other (cc)) (λ g y x e. never (sym (step_holds s l d t g y x) ∙ ap fails e))

pub grounded_only : GroundedOnly
unfolding fails
grounded_only s l d t v =
    ways s l d t (λ o. o.entry ≡ Grounded v → Grounds s l t v.0)
    (λ j w e. other (cc)) (λ i w e. let p : i ≡ v.0 = cc in rw (← p) w)
    (λ i w e. other (cc)) (λ g y x e. never (sym (step_holds s l d t g y x) ∙ ap fails e))

pub refused_only : RefusedOnly
unfolding fails
refused_only s l d t v =
    ways s l d t (λ o. o.entry ≡ Singular v → Refuses s l t v.0)
    (λ j w e. other (cc)) (λ i w e. other (cc))
    (λ i w e. let p : i ≡ v.0 = cc in rw (← p) w) (λ g y x e. never (sym (step_holds s l d t g y x) ∙ ap fails e))

-- A failed trial changes statuses or marks alone.
pub trial_spares : TrialSpares
unfolding fails
trial_spares s l d t =
    ways s l d t (λ o. fails o.entry ≡ true → Spared t o.state)
    (λ j w e. record { heads = refl; demands = refl; flows = refl }) (λ v w e. record { heads = refl; demands = refl; flows = refl })
    (λ v w e. record { heads = refl; demands = refl; flows = refl }) (λ g y x e. never (sym (step_holds s l d t g y x) ∙ e))
