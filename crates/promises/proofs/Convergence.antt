-- 0: what the last trial's step measured. Assumes nothing.
use Prim.Native.Nat.{ℕ, zero, suc, ◌<◌}
use mathlib.Core.Path.{◌≡◌, refl, sym, ap, subst, ◌∙◌}
use mathlib.Core.Bool.{Bool, true, false, not, cond, ◌&&◌, ◌||◌}
use mathlib.Core.List.{List}
use mathlib.Core.Logic.{⊎_elim}
use native.Mathlib.Omega.{arith}
use native.Mathlib.Nat.{eq-or-lt_of_le}
use borrow.Author.Tests.{not-true}
use lib.ListN.{get_or, set}
use lib.Ieee.{Float, nan, lt, eq}
use Rattle.constants.specs.Arithmetic.{minus, times}
use Rattle.constants.specs.Constants as constant
use Rattle.sheet.proofs.Laws.{and_left, and_right}
use Rattle.records.specs.Records.{options_of, pressures_of}
use Rattle.records.specs.declared.records.Options.{Options}
use Rattle.records.specs.declared.records.Pressures.{Pressures}
use Rattle.layout.specs.declared.places.Layout.{Layout}
use Rattle.links.specs.Links.{link_of}
use Rattle.nodes.specs.Nodes.{enabled, in_service}
use Rattle.codes.specs.Codes.{status_of}
use Rattle.wild.specs.Wild.{wild_place}
use Rattle.damping.specs.Damping.{converged_of, relative_change, flow_limit}
use Rattle.damping.specs.Units.{factor_of}
use Rattle.damping.specs.declared.steps.Damping.{Damping}
use Rattle.state.specs.State.{State, solved_heads}
use Rattle.tanks.specs.Tanks.{tank_links_of}
use Rattle.drawing.specs.Drawing.{gives_way}
use Rattle.drawn.specs.Drawn.{Draws, draws, bent, node_drawn, nodes_drawn, drawn_of}
use Rattle.substitution.specs.Substitution.{solved}
use Rattle.update.specs.Update.{still, noted, counts, Stepping, stepping, Basis, basis, flow_change, change_at, link_set, link_moved, link_update, link_updates, update_of}
use Rattle.update.specs.declared.Stats.{Stats}
use Rattle.entries.specs.declared.Entry.TheVariants.{Stepped, Converged}
use Rattle.trial.specs.Trial.{judged, step_entry, step_of, system_of, factors_of, trial_of}
use Rattle.promises.specs.Repairs.{stop_of, fails}
use Rattle.promises.specs.Trials.{Point}
use Rattle.promises.specs.Causes.{before_last}
use Rattle.promises.specs.Flips.{basis_of, change_of}
use Rattle.promises.specs.Convergence.{stats_of, Converges, TrialConverges}
use Rattle.promises.specs.Wilds.{NoneWild}
use Rattle.promises.specs.Statements.{ZeroConverges}
use Rattle.promises.proofs.Never.{other, never}
use Rattle.promises.proofs.Repairs.{each_way, stop_fails}
use Rattle.promises.proofs.Flips.{Same, later}
use Rattle.promises.proofs.Wilds.{none_is_wild}
use Rattle.promises.proofs.Causes.{last_is, last_leaves, zero_converged}
use Rattle.std.specs.Prelude.{None, Option, Some}
use Rattle.causes.specs.Causes.{Flip}

-- ---- the test of convergence

converges_by : (o : Options) (m : Stats) → converged_of (relative_change m.moved m.total o.accuracy) o.accuracy m.changed m.largest o.unit o.change ≡ true → Converges o m
unfolding converged_of flow_limit
converges_by o m h =
    let a = lt (relative_change m.moved m.total o.accuracy) o.accuracy in
    let b = not m.changed in
    let most = times m.largest (factor_of o.unit) in
    let c = lt most (flow_limit o.change) in
    let last : lt most (cond (eq o.change constant.zero) constant.big_value o.change) ≡ true = and_right (a && b) c h in
    record {
      relative = and_left a b (and_left (a && b) c h);
      statuses = not-true m.changed (and_right a b (and_left (a && b) c h));
      largest = λ z. ap (λ (y : Bool). lt most (cond y constant.big_value o.change)) (sym z) ∙ last;
      any_change = λ z. ap (λ (y : Bool). lt most (cond y constant.big_value o.change)) (sym z) ∙ last;
    }

judged_converges : (o : Options) (d : Damping) (m : Stats) (flip flip' : Flip) → judged o d m flip ≡ Converged flip' → Converges o m
unfolding judged
judged_converges o d m flip flip' = go (converged_of (relative_change m.moved m.total o.accuracy) o.accuracy m.changed m.largest o.unit o.change) refl _
  where
    go : (b : Bool) → converged_of (relative_change m.moved m.total o.accuracy) o.accuracy m.changed m.largest o.unit o.change ≡ b
        → (x : Damping) → cond b (Converged flip) (Stepped x flip) ≡ Converged flip' → Converges o m
    go true p x e = converges_by o m p
    go false p x e = other (cc)

entry_converges : (f : Option ℕ) (o : Options) (d : Damping) (m : Stats) (flip flip' : Flip) → step_entry f o d m flip ≡ Converged flip' → (f ≡ None) × Converges o m
unfolding step_entry
entry_converges (Some p) o d m flip flip' e = other (cc)
entry_converges None o d m flip flip' e = (refl, judged_converges o d m flip flip' e)

-- ---- a trial

-- an OK entry is that of a step that converges and leaves nothing wild
step_converges : (s : List ℕ) (l : Layout) (d : Damping) (t : State) (flip : Flip) → (trial_of s l d t).entry ≡ Converged flip
    → (wild_place l (trial_of s l d t).state.heads (trial_of s l d t).state.flows (trial_of s l d t).state.drawn ≡ None) × Converges (options_of s) (stats_of s l d t)
unfolding step_of stats_of basis_of
step_converges s l d t flip =
    each_way s l d t
    (λ o. o.entry ≡ Converged flip → (wild_place l o.state.heads o.state.flows o.state.drawn ≡ None) × Converges (options_of s) (stats_of s l d t))
    (λ j w e. other (cc)) (λ v w e. other (cc)) (λ v w e. other (cc))
    (λ e.
    let a = system_of s l t in
    let h = solved_heads s l (solved (factors_of s l t) l.unknowns a.rhs) l.nodes t.heads in
    let u = update_of s l (basis h a.g a.y d.factor) t.flows t.statuses in
    let f = drawn_of s l h d.factor (tank_links_of s l h u.flows t.demands u.codes).demands (draws t.drawn u.updated.stats) in
    entry_converges (wild_place l h u.flows f.drawn) (options_of s) d f.stats u.updated.flip flip e)

-- and its matrix was factored
trial_factored : (s : List ℕ) (l : Layout) (d : Damping) (t : State) (flip : Flip) → (trial_of s l d t).entry ≡ Converged flip → stop_of s l t ≡ None
unfolding fails
trial_factored s l d t flip e = go (stop_of s l t) refl
  where
    go : (f : Option ℕ) → stop_of s l t ≡ f → stop_of s l t ≡ None
    go None p = p
    go (Some v) p = never (sym (ap fails e) ∙ stop_fails s l d t v p)

-- ---- no status changed that counts

or_none : (a : Bool) → (a || false) ≡ a
or_none true = refl
or_none false = refl

neither : (a b : Bool) → (a || b) ≡ false → (a ≡ false) × (b ≡ false)
neither true b e = never (sym e)
neither false b e = (refl, e)

module _ (s : List ℕ) (l : Layout) (b : Basis) where
  -- what one link's update adds
  counted_next : (j : ℕ) (w w₀ : Stepping) → Same w w₀ j
      → (link_update s l b (link_of s l j) j w).updated.stats.changed ≡ (w.updated.stats.changed || counts (status_of (get_or w₀.codes j 0)) (change_of s l b w₀.flows w₀.codes j))
  unfolding link_update link_moved link_set noted change_of counts
  counted_next j w w₀ e = go (enabled s l (link_of s l j).start && enabled s l (link_of s l j).end)
    where
      go : (on : Bool) → (cond on (link_moved s l b (link_of s l j) j w) (stepping (set w.flows j constant.zero) w.codes w.updated)).updated.stats.changed
          ≡ (w.updated.stats.changed || counts (status_of (get_or w₀.codes j 0)) (cond on (change_at s l b.heads (link_of s l j) (get_or w₀.codes j 0) (minus (get_or w₀.flows j nan) (flow_change b (link_of s l j) j))) None))
      go true = rw (← e.flow, ← e.code)
      go false = sym (or_none w.updated.stats.changed)

  module _ (q : List Float) (c : List ℕ) where
    unchanged : (n : ℕ) → (link_updates s l b n (stepping q c still)).updated.stats.changed ≡ false → (j : ℕ) → j < n → counts (status_of (get_or c j 0)) (change_of s l b q c j) ≡ false
    unfolding link_updates
    unchanged zero e j h = absurd (omega (arith, h))
    unchanged (suc n) e j h =
        let before = link_updates s l b n (stepping q c still) in
        let r = neither before.updated.stats.changed (counts (status_of (get_or c n 0)) (change_of s l b q c n))
        (sym (counted_next n before (stepping q c still) (later s l b n n (stepping q c still) (omega arith))) ∙ e) in
        ⊎_elim
        (λ (z : j ≡ n). ap (λ (i : ℕ). counts (status_of (get_or c i 0)) (change_of s l b q c i)) z ∙ r.1)
        (λ (z : j < n). unchanged n r.0 j z)
        (eq-or-lt_of_le (omega (arith, h)))

-- drawn flows add nothing
module _ (s : List ℕ) (l : Layout) (p : Pressures) (h : List Float) (factor : Float) (asked : List Float) where
  node_keeps : (i : ℕ) (w : Draws) → (node_drawn s l p h factor asked i w).stats.changed ≡ w.stats.changed
  unfolding node_drawn bent noted
  node_keeps i w = go (enabled s l i) (gives_way (in_service s l i) (get_or asked i nan))
    where
      go : (a b : Bool) → (cond a (cond b (bent s l p h factor asked i w) (draws (set w.drawn i (get_or asked i nan)) w.stats)) w).stats.changed ≡ w.stats.changed
      go true true = or_none w.stats.changed
      go true false = refl
      go false b = refl

  nodes_keep : (i : ℕ) (w : Draws) → (nodes_drawn s l p h factor asked i w).stats.changed ≡ w.stats.changed
  unfolding nodes_drawn
  nodes_keep zero w = refl
  nodes_keep (suc i) w = node_keeps i (nodes_drawn s l p h factor asked i w) ∙ nodes_keep i w

drawn_keeps : (s : List ℕ) (l : Layout) (h : List Float) (factor : Float) (asked : List Float) (w : Draws) → (drawn_of s l h factor asked w).stats.changed ≡ w.stats.changed
unfolding drawn_of
drawn_keeps s l h factor asked w = go l.pressures
  where
    go : (b : Bool) → (cond b (nodes_drawn s l (pressures_of s) h factor asked l.nodes w) w).stats.changed ≡ w.stats.changed
    go true = nodes_keep s l (pressures_of s) h factor asked l.nodes w
    go false = refl

links_unchanged : (s : List ℕ) (l : Layout) (d : Damping) (t : State) → (stats_of s l d t).changed ≡ false
    → (j : ℕ) → j < l.links → counts (status_of (get_or t.statuses j 0)) (change_of s l (basis_of s l d t) t.flows t.statuses j) ≡ false
unfolding stats_of update_of
links_unchanged s l d t e =
    let b = basis_of s l d t in
    let u = update_of s l b t.flows t.statuses in
    let w = tank_links_of s l b.heads u.flows t.demands u.codes in
    unchanged s l b t.flows t.statuses l.links (sym (drawn_keeps s l b.heads d.factor w.demands (draws t.drawn u.updated.stats)) ∙ e)

-- ---- a solve

trial_converges : (s : List ℕ) (l : Layout) (p : Point) (flip : Flip) → (trial_of s l p.damping p.state).entry ≡ Converged flip → TrialConverges s l p
trial_converges s l p flip e =
    let r = step_converges s l p.damping p.state flip e in
    record { factored = trial_factored s l p.damping p.state flip e; converges = r.1; links = links_unchanged s l p.damping p.state r.1.statuses }

-- 0: the last trial's step converges, and nothing that it leaves is wild.
pub zero_converges : ZeroConverges
zero_converges s x n =
    let r = zero_converged s x n in
    let l = r.0 in
    let w = r.1.0 in
    let p = before_last s l in
    let e = sym (last_is s x l w) ∙ r.1.1.1 in (
      l,
      (
        w,
        record {
          last = trial_converges s l p r.1.1.0 e;
          none_wild = subst (NoneWild l) (sym (last_leaves s x l w)) (none_is_wild l (trial_of s l p.damping p.state).state (step_converges s l p.damping p.state r.1.1.0 e).0);
        },
      ),
    )
