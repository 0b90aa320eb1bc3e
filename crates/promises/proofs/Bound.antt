-- Demand 3, repairs end: each failed trial but the last lowers the Active regulators or the ungrounded unknowns by one. Assumes nothing.
use Prim.Native.Nat.{ℕ, zero, suc, ◌+◌, ◌≤◌, ◌<◌}
use mathlib.Core.Path.{◌≡◌, refl, sym, ap, ◌∙◌}
use mathlib.Core.List.{List, [], ◌∷◌}
use mathlib.Core.Bool.{Bool, true, false, cond, ◌&&◌, not}
use native.Mathlib.Omega.{arith}
use native.Mathlib.Decide.{ℕ_discrete}
use lib.ListN.{get_or, set, drop, replicate, length-set, length-replicate}
use lib.Seq.{drop-nil, get_or-set_same, get_or-set_other}
use lib.Ieee.{Float}
use Rattle.nodes.specs.Nodes.{in_service, serving}
use Rattle.sheet.specs.Read.{read_of}
use Rattle.layout.specs.declared.places.Layout.{Layout}
use Rattle.linear.specs.Factorization.{factor_of, Factored}
use Rattle.linear.proofs.Laws.{stops_below}
use Rattle.numbering.specs.Numbering.{node_numbered}
use Rattle.numbering.proofs.Rows.{node_of}
use Rattle.links.specs.Links.{regulator}
use Rattle.state.specs.State.{State, solved_heads}
use Rattle.columns.specs.Columns.{zeros}
use Rattle.columns.proofs.Laws.{zeros_long}
use Rattle.state.proofs.Kept.{heads_long, demands_long, flows_long, codes_long, solved_long}
use Rattle.update.specs.Update.{basis, update_of}
use Rattle.update.proofs.Kept.{update_flows_long, update_codes_long}
use Rattle.tanks.specs.Tanks.{tank_links_of}
use Rattle.drawn.specs.Drawn.{draws}
use Rattle.drawn.proofs.Laws.{drawn_long}
use Rattle.tanks.proofs.Kept.{tank_demands_long, tank_codes_long}
use Rattle.damping.specs.declared.steps.Damping.{Damping}
use Rattle.entries.specs.declared.Entry.{Entry}
use Rattle.trial.specs.Trial.{Room, Outcome, repair_of, step_of, system_of, trial_of}
use Rattle.entries.specs.Entries.{going_of, Going}
use Rattle.runs.specs.Run.{then_run, run_with}
use Rattle.solver.specs.Solve.{trials_of, start_of}
use Rattle.solver.proofs.Laws.{network_of}
use Rattle.promises.specs.Count.{count}
use Rattle.promises.specs.Repairs.{stop_node, stop_of, Frees, Grounds, freed_in, grounded_in, fails}
use Rattle.promises.specs.Trials.{Point, point, trial_at, run_at, damping_after, next, after_trials, start_point, run_in, point_in}
use Rattle.promises.specs.Bound.{failing, is_active, active, is_loose, loose}
use Rattle.promises.specs.Statements.{SolveRepairsEnd}
use Rattle.promises.proofs.Never.{other, never}
use Rattle.promises.proofs.Repairs.{regulates, ways, step_holds}
use Rattle.promises.proofs.Trials.{unmoved, shifted, on_damping}
use Rattle.std.specs.Prelude.{Err, Ok, Some}
use Rattle.std.proofs.Common.{Break, Continue}

-- ---- counting

count_same : (n : ℕ) (f g : ℕ → Bool) → ((i : ℕ) → i < n → g i ≡ f i) → count n g ≡ count n f
unfolding count
count_same zero f g h = refl
count_same (suc n) f g h = rw (h n (omega arith), count_same n f g (λ i x. h i (omega arith)))

-- one that passed, and that alone, passes no more
count_less : (n : ℕ) (f g : ℕ → Bool) (j : ℕ) → j < n → f j ≡ true → g j ≡ false → ((i : ℕ) → (i ≡ j → ⊥) → g i ≡ f i) → count n f ≡ suc (count n g)
unfolding count
count_less zero f g j x a b h = absurd (let z : ⊥ = omega arith in z)
count_less (suc n) f g j x a b h = go (ℕ_discrete n j) (λ k. count_less n f g j k a b h)
  where
    both : (b : Bool) (k : ℕ) → cond {A = ℕ} b (suc (suc k)) (suc k) ≡ suc (cond {A = ℕ} b (suc k) k)
    both true k = refl
    both false k = refl

    go : Dec (n ≡ j) → (j < n → count n f ≡ suc (count n g)) → cond {A = ℕ} (f n) (suc (count n f)) (count n f) ≡ suc (cond {A = ℕ} (g n) (suc (count n g)) (count n g))
    go (yes e) ih =
        let p : count n f ≡ count n g = sym (count_same n f g (λ i x. h i (λ q. absurd (let z : ⊥ = omega arith in z)))) in
        let q : f n ≡ true = ap f e ∙ a in
        let r : g n ≡ false = ap g e ∙ b in
        rw (q, r, p)
    go (no e) ih =
        let p : count n f ≡ suc (count n g) = ih (omega (arith, e)) in
        rw (h n e, p) (both (f n) (count n g))

count_most : (n : ℕ) (f g : ℕ → Bool) → ((i : ℕ) → g i ≡ true → f i ≡ true) → count n g ≤ count n f
unfolding count
count_most zero f g h = omega arith
count_most (suc n) f g h = go (g n) refl (f n) refl (count_most n f g h)
  where
    go : (b : Bool) → g n ≡ b → (c : Bool) → f n ≡ c → count n g ≤ count n f → cond {A = ℕ} b (suc (count n g)) (count n g) ≤ cond {A = ℕ} c (suc (count n f)) (count n f)
    go true p true q ih = omega arith
    go true p false q ih = other (cc (h n p))
    go false p true q ih = omega arith
    go false p false q ih = ih

and_false : (a : Bool) → (a && false) ≡ false
and_false true = refl
and_false false = refl

first_true : (a b : Bool) → (a && b) ≡ true → a ≡ true
first_true true b e = refl
first_true false b e = other (cc)

-- the unknowns are the junctions in service, and those not grounded are among them
serving_counts : (s : List ℕ) (l : Layout) (n : ℕ) → serving s l n ≡ count n (in_service s l)
unfolding serving count
serving_counts s l zero = refl
serving_counts s l (suc n) = rw (serving_counts s l n)

pub loose_most : (s : List ℕ) (l : Layout) (t : State) → loose s l t ≤ serving s l l.nodes
unfolding loose is_loose
loose_most s l t =
    let h = count_most l.nodes (in_service s l) (is_loose s l t.grounded) (λ i h. first_true (in_service s l i) (not (get_or t.grounded i false)) h) in
    omega (arith, serving_counts s l l.nodes, h)

-- ---- what a repair lowers

-- what is left to repair
unfoldable pub left : List ℕ → Layout → State → ℕ
left s l t = active s l t + loose s l t

pub record Lowered (s : List ℕ) (l : Layout) (t u : State) : Type 0 where
  pub by_one : left s l t ≡ suc (left s l u)

-- a factorization stops at a junction in service, where the unknowns are those
module _ (s : List ℕ) (l : Layout) (right : l.unknowns ≡ serving s l l.nodes) (t : State) (v : ℕ) (e : stop_of s l t ≡ Some v) where
  pub stop_node_lem : (v < l.nodes) × (in_service s l v ≡ true)
  unfolding stop_of stop_node
  stop_node_lem = go (factor_of l.unknowns (system_of s l t).matrix).answer refl e
    where
      go : (f : Factored) → (factor_of l.unknowns (system_of s l t).matrix).answer ≡ f → stop_node s l f ≡ Some v → (v < l.nodes) × (in_service s l v ≡ true)
      go (Ok tt) p q = other (cc)
      go (Err u) p q =
          let w = node_of s l l.nodes u.0 (omega (arith, stops_below l.unknowns (system_of s l t).matrix u p, right)) in
          let at : node_numbered s l l.nodes u.0 ≡ v = cc in
          (omega (arith, w.below, at), ap (in_service s l) (sym at) ∙ w.works)

module _ (s : List ℕ) (l : Layout) (right : l.unknowns ≡ serving s l l.nodes) (t : State) (m : Room l t) where
  freed_lowers : (j : ℕ) → Frees s l t j → Lowered s l t (freed_in t j)
  unfolding left active loose is_active
  freed_lowers j w =
      let is = regulates s l t.statuses w.node j w.lowest.is in
      let p : count l.links (is_active s l t.statuses) ≡ suc (count l.links (is_active s l (set t.statuses j 6))) =
      count_less l.links (is_active s l t.statuses) (is_active s l (set t.statuses j 6)) j w.lowest.one
      (rw (is.0, is.2))
      (rw (get_or-set_same t.statuses j 6 0 (omega (arith, m.statuses, w.lowest.one))) (and_false (regulator s l j)))
      (λ i d. rw (get_or-set_other t.statuses j i 6 0 d)) in
      record { by_one = omega (arith, p) }

  grounded_lowers : (v : ℕ) → Grounds s l t v → Lowered s l t (grounded_in t v)
  unfolding left active loose is_loose
  grounded_lowers v w =
      let is = stop_node_lem s l right t v w.stops in
      let p : count l.nodes (is_loose s l t.grounded) ≡ suc (count l.nodes (is_loose s l (set t.grounded v true))) =
      count_less l.nodes (is_loose s l t.grounded) (is_loose s l (set t.grounded v true)) v is.0
      (rw (is.1, w.yet))
      (rw (get_or-set_same t.grounded v true false (omega (arith, m.grounded, is.0))) (and_false (in_service s l v)))
      (λ i d. rw (get_or-set_other t.grounded v i true false d)) in
      record { by_one = omega (arith, p) }

-- a failed trial after which the run goes on lowers what is left
module _ (s : List ℕ) (l : Layout) (right : l.unknowns ≡ serving s l l.nodes) (d : Damping) (t : State) (m : Room l t) where
  pub trial_lowers : (d' : Damping) → fails (trial_of s l d t).entry ≡ true → going_of d (trial_of s l d t).entry ≡ Continue d' → Lowered s l t (trial_of s l d t).state
  unfolding going_of
  trial_lowers d' =
      ways s l d t (λ o. fails o.entry ≡ true → going_of d o.entry ≡ Continue d' → Lowered s l t o.state)
      (λ j w f g. freed_lowers s l right t m j w) (λ v w f g. grounded_lowers s l right t m v w)
      (λ v w f g. other (cc)) (λ g y x f on. never (sym (step_holds s l d t g y x) ∙ f))

  -- and any trial keeps the lengths
  step_room : (g y x : List Float) → Room l (step_of s l d t g y x).state
  unfolding step_of
  step_room g y x =
      let h = solved_heads s l x l.nodes t.heads in
      let u = update_of s l (basis h g y d.factor) t.flows t.statuses in
      let p = basis h g y d.factor in
      let w = tank_links_of s l h u.flows t.demands u.codes in
      record {
        heads = omega (arith, m.heads, solved_long s l x l.nodes t.heads);
        demands = omega (arith, m.demands, tank_demands_long s l h u.flows t.demands u.codes);
        drawn = omega (arith, m.drawn, drawn_long s l h d.factor w.demands (draws t.drawn u.updated.stats));
        flows = omega (arith, m.flows, update_flows_long s l p t.flows t.statuses);
        statuses = omega (arith, m.statuses, tank_codes_long s l h u.flows t.demands u.codes, update_codes_long s l p t.flows t.statuses);
        grounded = m.grounded;
      }

  pub trial_room : Room l (trial_of s l d t).state
  trial_room =
      ways s l d t (λ o. Room l o.state)
      (λ j w. record { heads = m.heads; demands = m.demands; drawn = m.drawn; flows = m.flows; statuses = simp length-set m.statuses; grounded = m.grounded })
      (λ v w. record { heads = m.heads; demands = m.demands; drawn = m.drawn; flows = m.flows; statuses = m.statuses; grounded = simp length-set m.grounded })
      (λ v w. m) step_room

-- ---- a run

pub failing_none : failing [] ≡ 0
unfolding failing
failing_none = refl

failing_cons : (e : Entry) (es : List Entry) (b : ℕ) → (fails e ≡ true → failing es ≤ b) → failing (e ∷ es) ≤ suc b
unfolding failing
failing_cons e es b h = go (fails e) refl
  where
    go : (t : Bool) → fails e ≡ t → cond {A = ℕ} t (suc (failing es)) 0 ≤ suc b
    go true p = let q = h p in omega arith
    go false p = omega arith

module _ (s : List ℕ) (l : Layout) (right : l.unknowns ≡ serving s l l.nodes) where
  from_start : (m : ℕ) (p : Point) → Room l p.state → failing (run_at s l m p).entries ≤ suc (left s l p.state)
  unfolding run_with then_run
  from_start zero p w = omega (arith, failing_none)
  from_start (suc m) p w =
      go (trial_at s l p) (going_of p.damping (trial_at s l p).entry) refl (from_start m) (trial_room s l right p.damping p.state w) (trial_lowers s l right p.damping p.state w)
    where
      go : (o : Outcome) (g : Going) → going_of p.damping o.entry ≡ g
          → ((p : Point) → Room l p.state → failing (run_at s l m p).entries ≤ suc (left s l p.state))
          → Room l o.state
          → ((d' : Damping) → fails o.entry ≡ true → going_of p.damping o.entry ≡ Continue d' → Lowered s l p.state o.state)
          → failing (then_run o.entry o.state g (run_with repair_of s l m)).entries ≤ suc (left s l p.state)
      go o (Continue d') e ih wide low =
          failing_cons o.entry (run_with repair_of s l m d' o.state).entries (left s l p.state)
          (λ h. omega (arith, ih (point d' o.state) wide, (low d' h e).by_one))
      go o (Break z) e ih wide low = failing_cons o.entry [] (left s l p.state) (λ h. omega (arith, failing_none))

  from_any : (i m : ℕ) (p : Point) → Room l p.state → failing (drop i (run_at s l m p).entries) ≤ suc (left s l (after_trials s l i p).state)
  unfolding run_with then_run next
  from_any zero m p w = rw (unmoved s l p) (from_start m p w)
  from_any (suc i) zero p w = omega (arith, failing_none)
  from_any (suc i) (suc m) p w =
      rw (shifted s l i p)
      (go (trial_at s l p) refl (going_of p.damping (trial_at s l p).entry) refl (from_any i m) (trial_room s l right p.damping p.state w))
    where
      go : (o : Outcome) → trial_at s l p ≡ o → (g : Going) → going_of p.damping o.entry ≡ g
          → ((p : Point) → Room l p.state → failing (drop i (run_at s l m p).entries) ≤ suc (left s l (after_trials s l i p).state))
          → Room l o.state
          → failing (drop (suc i) (then_run o.entry o.state g (run_with repair_of s l m)).entries) ≤ suc (left s l (after_trials s l i (point (damping_after p.damping o.entry) o.state)).state)
      go o q (Continue d') e ih wide = rw (on_damping p.damping d' o.entry e) (ih (point d' o.state) wide)
      go o q (Break z) e ih wide = rw (drop-nil {A = Entry} i) (omega (arith, failing_none))

  -- Demand 3: with U junctions in service and V regulators Active where a run of failed trials begins, it is at most V + U + 1 trials long. For every number of nodes, links and trials.
  pub repairs_end : (i m : ℕ) (p : Point) → Room l p.state
      → failing (drop i (run_at s l m p).entries) ≤ active s l (after_trials s l i p).state + serving s l l.nodes + 1
  unfolding left
  repairs_end i m p w = omega (arith, from_any i m p w, loose_most s l (after_trials s l i p).state)

-- every trial keeps the lengths
pub room_after : (s : List ℕ) (l : Layout) → l.unknowns ≡ serving s l l.nodes → (i : ℕ) (p : Point) → Room l p.state → Room l (after_trials s l i p).state
unfolding after_trials next
room_after s l right zero p w = w
room_after s l right (suc i) p w = trial_room s l right (after_trials s l i p).damping (after_trials s l i p).state (room_after s l right i p w)

-- ---- a solve

pub start_room : (s : List ℕ) (l : Layout) → read_of s ≡ Ok l → Room l (start_of s l)
unfolding start_of
start_room s l e =
    let w = network_of s l e in
    record {
      heads = omega (arith, w.nodes, heads_long s l l.nodes (zeros 64), zeros_long 64);
      demands = omega (arith, w.nodes, demands_long s l l.nodes (zeros 64), zeros_long 64);
      drawn = omega (arith, w.nodes, demands_long s l l.nodes (zeros 64), zeros_long 64);
      flows = omega (arith, w.links, flows_long s l l.links (zeros 128), zeros_long 128);
      statuses = omega (arith, w.links, codes_long s l l.links (replicate 128 0), length-replicate {A = ℕ} 128 0);
      grounded = omega (arith, w.nodes, length-replicate 64 false);
    }
