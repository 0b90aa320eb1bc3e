-- Demand 3: a node is grounded at most once in a solve, since no trial clears a mark (Once). Assumes nothing.
use Prim.Native.Nat.{ℕ, zero, suc, ◌+◌, ◌-◌, ◌<◌}
use mathlib.Core.Path.{◌≡◌, sym, ap, ◌∙◌}
use mathlib.Core.List.{List}
use mathlib.Core.Bool.{true, false}
use native.Mathlib.Omega.{arith}
use native.Mathlib.Nat.{zero-add, suc-add}
use lib.ListN.{length, get_or}
use lib.Seq.{get_or-set_same, get_or-set_other}
use Rattle.layout.specs.declared.places.Layout.{Layout}
use Rattle.nodes.specs.declared.NodeIndex.{NodeIndex}
use Rattle.state.specs.State.{State}
use Rattle.entries.specs.Entries.{no_entry}
use Rattle.entries.specs.declared.Entry.TheVariants.{Grounded}
use Rattle.trial.specs.Trial.{Room, Outcome, step_of}
use Rattle.solver.specs.Solve.{trials_of}
use Rattle.promises.specs.Repairs.{Grounds}
use Rattle.nodes.specs.Nodes.{serving}
use Rattle.solver.proofs.Laws.{network_of}
use Rattle.promises.specs.Trials.{Point, trial_at, run_at, after_trials, start_point, run_in}
use Rattle.promises.specs.Statements.{SolveGroundedOnce}
use Rattle.promises.proofs.Never.{never}
use Rattle.promises.proofs.Repairs.{ways, trial_grounds, grounded_only}
use Rattle.promises.proofs.Trials.{each_entry, each_state}
use Rattle.promises.proofs.Bound.{stop_node_lem, room_after, start_room}
use Rattle.promises.proofs.Once.{mark_stays, marked}

module _ (s : List ℕ) (l : Layout) where
  -- Marks stay through any number of trials,
  pub marks_stay : (c i : ℕ) (p : Point) (v : ℕ) → get_or (after_trials s l i p).state.grounded v false ≡ true → get_or (after_trials s l (c + i) p).state.grounded v false ≡ true
  marks_stay zero i p v h = rw zero-add h
  marks_stay (suc c) i p v h =
      rw suc-add
      (ap (λ (t : State). get_or t.grounded v false) (each_state s l (c + i) p)
      ∙ mark_stays s l (after_trials s l (c + i) p) v (marks_stay c i p v h))

  -- so no two entries of a run ground one node. For every number of nodes, links and trials.
  pub grounded_once : l.unknowns ≡ serving s l l.nodes → (m : ℕ) (p : Point) → Room l p.state → (v : NodeIndex) (i j : ℕ) → i < j → j < length (run_at s l m p).entries
      → get_or (run_at s l m p).entries i no_entry ≡ Grounded v → get_or (run_at s l m p).entries j no_entry ≡ Grounded v → ⊥
  grounded_once right m p w v i j z h a b =
      let x = after_trials s l i p in
      let y = after_trials s l j p in
      let first = grounded_only s l x.damping x.state v (sym (each_entry s l m i p (omega arith)) ∙ a) in
      let second = grounded_only s l y.damping y.state v (sym (each_entry s l m j p h) ∙ b) in
      let e : (j - suc i) + suc i ≡ j = omega arith in
      let on = marks_stay (j - suc i) (suc i) p v.0 (marked s l right i p w v.0 first) in
      never (sym second.yet ∙ ap (λ (c : ℕ). get_or (after_trials s l c p).state.grounded v.0 false) (sym e) ∙ on)

-- Of the solve of any sheet.
pub solve_grounded_once : SolveGroundedOnce
unfolding run_in start_point
solve_grounded_once s l e = grounded_once s l (network_of s l e).unknowns (trials_of s) (start_point s l) (start_room s l e)
