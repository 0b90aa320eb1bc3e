-- 7: what stands at its place, and before it. Assumes nothing.
use Prim.Native.Nat.{ℕ, zero, suc, ◌+◌, ◌-◌, ◌≤◌, ◌<◌}
use mathlib.Core.Path.{◌≡◌, refl, sym, subst, ◌∙◌}
use mathlib.Core.Bool.{Bool, true, false, cond}
use mathlib.Core.List.{List}
use native.Mathlib.Omega.{arith}
use lib.Ieee.{Float}
use Rattle.records.specs.Records.{options_of}
use Rattle.records.specs.declared.records.Options.{Options}
use Rattle.layout.specs.declared.places.Layout.{Layout}
use Rattle.found.specs.Searches.{or_else, first_from, first_of, First}
use Rattle.found.proofs.Firsts.{first_is, first_none}
use Rattle.wild.specs.Wild.{wild_from, first_wild, past, wild_drawn, wild_place}
use Rattle.damping.specs.Damping.{converged_of, relative_change}
use Rattle.damping.specs.declared.steps.Damping.{Damping}
use Rattle.state.specs.State.{State, solved_heads}
use Rattle.tanks.specs.Tanks.{tank_links_of}
use Rattle.drawn.specs.Drawn.{draws, drawn_of}
use Rattle.update.specs.Update.{basis, update_of}
use Rattle.update.specs.declared.Stats.{Stats}
use Rattle.entries.specs.declared.Entry.TheVariants.{Wild, Stepped, Converged}
use Rattle.trial.specs.Trial.{judged, step_entry, step_of, trial_of}
use Rattle.solver.specs.Solve.{solve_of}
use Rattle.solver.proofs.Laws.{network_of}
use Rattle.promises.specs.Causes.{before_last}
use Rattle.promises.specs.Wilds.{is_wild, WildAt, NoneWild}
use Rattle.promises.specs.Statements.{SevenFirstWild}
use Rattle.promises.proofs.Never.{other}
use Rattle.promises.proofs.Repairs.{ways}
use Rattle.promises.proofs.Causes.{last_is, last_leaves, seven_wild}
use Rattle.std.specs.Prelude.{None, Option, Some}
use Rattle.causes.specs.Causes.{Flip}

-- ---- a column

wild_from_lem : (x : List Float) (k i : ℕ) → wild_from x k i ≡ first_from (is_wild x) k i
unfolding wild_from first_from is_wild
wild_from_lem x zero i = refl
wild_from_lem x (suc k) i = rw (wild_from_lem x k (suc i))

wild_first : (x : List Float) (k : ℕ) → first_wild x k ≡ first_of (is_wild x) k
unfolding first_wild first_of
wild_first x k = wild_from_lem x k 0

first_wild_lem : (x : List Float) (k i : ℕ) → first_wild x k ≡ Some i → First (is_wild x) k i
first_wild_lem x k i e = first_is (is_wild x) k i (sym (wild_first x k) ∙ e)

none_wild : (x : List Float) (k : ℕ) → first_wild x k ≡ None → (i : ℕ) → i < k → is_wild x i ≡ false
none_wild x k e = first_none (is_wild x) k (sym (wild_first x k) ∙ e)

-- ---- the three columns

module _ (l : Layout) (t : State) where
  wild_at : l.nodes ≤ 64 → l.links ≤ 128 → (p : ℕ) → wild_place l t.heads t.flows t.drawn ≡ Some p → WildAt l t p
  unfolding wild_place wild_drawn
  wild_at few some p e = go (first_wild t.heads l.nodes) refl (first_wild t.flows l.links) refl l.pressures refl (first_wild t.drawn l.nodes) refl e
    where
      go : (f : Option ℕ) → first_wild t.heads l.nodes ≡ f → (g : Option ℕ) → first_wild t.flows l.links ≡ g → (b : Bool) → l.pressures ≡ b → (k : Option ℕ) → first_wild t.drawn l.nodes ≡ k
          → or_else f (or_else (past 64 g) (cond b (past 256 k) None)) ≡ Some p → WildAt l t p
      go (Some i) u g v b c k d z =
          let same : i ≡ p = cc in
          let is = first_wild_lem t.heads l.nodes i u in
          let low : p < 64 = omega (arith, same, is.below, few) in
          record {
            head = λ a. subst (First (is_wild t.heads) l.nodes) same is;
            flow = λ a y. absurd (omega (arith, a, low));
            drawn = λ a. absurd (omega (arith, a, low));
            heads_before = λ a i y. absurd (omega (arith, a, low));
            flows_before = λ a i y. absurd (omega (arith, a, low));
          }
      go None u (Some j) v b c k d z =
          let same : 64 + j ≡ p = cc in
          let is = first_wild_lem t.flows l.links j v in
          let from : j ≡ p - 64 = omega (arith, same) in
          let low : p < 256 = omega (arith, same, is.below, some) in
          record {
            head = λ a. absurd (omega (arith, a, same));
            flow = λ a y. subst (First (is_wild t.flows) l.links) from is;
            drawn = λ a. absurd (omega (arith, a, low));
            heads_before = λ a. none_wild t.heads l.nodes u;
            flows_before = λ a i y. absurd (omega (arith, a, low));
          }
      go None u None v true c (Some i) d z =
          let same : 256 + i ≡ p = cc in
          let from : i ≡ p - 256 = omega (arith, same) in
          record {
            head = λ a. absurd (omega (arith, a, same));
            flow = λ a y. absurd (omega (arith, y, same));
            drawn = λ a. (c, subst (First (is_wild t.drawn) l.nodes) from (first_wild_lem t.drawn l.nodes i d));
            heads_before = λ a. none_wild t.heads l.nodes u;
            flows_before = λ a. none_wild t.flows l.links v;
          }
      go None u None v true c None d z = other (cc)
      go None u None v false c k d z = other (cc)

  pub none_is_wild : wild_place l t.heads t.flows t.drawn ≡ None → NoneWild l t
  unfolding wild_place wild_drawn
  none_is_wild e = go (first_wild t.heads l.nodes) refl (first_wild t.flows l.links) refl l.pressures refl (first_wild t.drawn l.nodes) refl e
    where
      go : (f : Option ℕ) → first_wild t.heads l.nodes ≡ f → (g : Option ℕ) → first_wild t.flows l.links ≡ g → (b : Bool) → l.pressures ≡ b → (k : Option ℕ) → first_wild t.drawn l.nodes ≡ k
          → or_else f (or_else (past 64 g) (cond b (past 256 k) None)) ≡ None → NoneWild l t
      go (Some i) u g v b c k d z = other (cc)
      go None u (Some j) v b c k d z = other (cc)
      go None u None v true c (Some i) d z = other (cc)
      go None u None v true c None d z = record { heads = none_wild t.heads l.nodes u; flows = none_wild t.flows l.links v; drawn = λ y. none_wild t.drawn l.nodes d }
      go None u None v false c k d z = record { heads = none_wild t.heads l.nodes u; flows = none_wild t.flows l.links v; drawn = λ y. other (cc) }

-- ---- a trial

judged_other : (o : Options) (d : Damping) (m : Stats) (flip : Flip) (p : ℕ) → judged o d m flip ≡ Wild p → ⊥
unfolding judged
judged_other o d m flip p = go (converged_of (relative_change m.moved m.total o.accuracy) o.accuracy m.changed m.largest o.unit o.change) _
  where
    go : (b : Bool) (x : Damping) → cond b (Converged flip) (Stepped x flip) ≡ Wild p → ⊥
    go true x e = other (cc)
    go false x e = other (cc)

entry_wild : (f : Option ℕ) (o : Options) (d : Damping) (m : Stats) (flip : Flip) (p : ℕ) → step_entry f o d m flip ≡ Wild p → f ≡ Some p
unfolding step_entry
entry_wild (Some q) o d m flip p e = cc
entry_wild None o d m flip p e = absurd (judged_other o d m flip p e)

-- an NF entry names what is wild first in the columns that its trial's step leaves
trial_wild : (s : List ℕ) (l : Layout) (d : Damping) (t : State) (p : ℕ) → (trial_of s l d t).entry ≡ Wild p
    → wild_place l (trial_of s l d t).state.heads (trial_of s l d t).state.flows (trial_of s l d t).state.drawn ≡ Some p
unfolding step_of
trial_wild s l d t p =
    ways s l d t (λ o. o.entry ≡ Wild p → wild_place l o.state.heads o.state.flows o.state.drawn ≡ Some p)
    (λ j w e. other (cc)) (λ v w e. other (cc)) (λ v w e. other (cc))
    (λ g y x e.
    let h = solved_heads s l x l.nodes t.heads in
    let u = update_of s l (basis h g y d.factor) t.flows t.statuses in
    let f = drawn_of s l h d.factor (tank_links_of s l h u.flows t.demands u.codes).demands (draws t.drawn u.updated.stats) in
    entry_wild (wild_place l h u.flows f.drawn) (options_of s) d f.stats u.updated.flip p e)

-- ---- a solve

-- 7: the head or flow at the place, of the columns that the last trial left, is wild, and none before it is.
pub seven_first_wild : SevenFirstWild
seven_first_wild s x n =
    let r = seven_wild s x n in
    let l = r.0 in
    let w = r.1.0 in
    let p = (solve_of s x).answer.place in
    let net = network_of s l w.read in
    let e = trial_wild s l (before_last s l).damping (before_last s l).state p (sym (last_is s x l w) ∙ r.1.1) in
    (l, (w, subst (λ (t : State). WildAt l t p) (sym (last_leaves s x l w)) (wild_at l (trial_of s l (before_last s l).damping (before_last s l).state).state net.nodes net.links p e)))
