-- Demand 3: a node is grounded at most once in a solve, as marks are never cleared. Assumes nothing.
use Prim.Native.Nat.{ℕ, zero, suc, ◌+◌, ◌-◌, ◌<◌}
use mathlib.Core.Path.{◌≡◌, sym, ap, ◌∙◌}
use mathlib.Core.List.{List}
use mathlib.Core.Bool.{true, false}
use native.Mathlib.Omega.{arith}
use native.Mathlib.Nat.{zero-add, suc-add}
use lib.ListN.{length, get_or}
use lib.Seq.{get_or-set_same, get_or-set_other}
use Rattle.layout.specs.declared.places.Layout.{Layout}
use Rattle.nodes.specs.declared.NodeIndex.{NodeIndex}
use Rattle.state.specs.State.{State}
use Rattle.entries.specs.Entries.{no_entry}
use Rattle.entries.specs.declared.Entry.TheVariants.{Grounded}
use Rattle.trial.specs.Trial.{Room, Outcome, step_of}
use Rattle.solver.specs.Solve.{trials_of}
use Rattle.promises.specs.Repairs.{Grounds}
use Rattle.nodes.specs.Nodes.{serving}
use Rattle.solver.proofs.Laws.{network_of}
use Rattle.promises.specs.Trials.{Point, trial_at, run_at, after_trials, start_point, run_in}
use Rattle.promises.specs.Statements.{SolveGroundedOnce}
use Rattle.promises.proofs.Never.{never}
use Rattle.promises.proofs.Repairs.{ways, trial_grounds, grounded_only}
use Rattle.promises.proofs.Trials.{each_entry, each_state}
use Rattle.promises.proofs.Bound.{stop_node_lem, room_after, start_room}

module _ (s : List ℕ) (l : Layout) where
  -- No trial clears a mark.
  pub mark_stays : (p : Point) (v : ℕ) → get_or p.state.grounded v false ≡ true → get_or (trial_at s l p).state.grounded v false ≡ true
  unfolding step_of
  mark_stays p v h =
      ways s l p.damping p.state (λ o. get_or o.state.grounded v false ≡ true)
      (λ j w. h)
      (λ u w. get_or-set_other p.state.grounded u v true false (λ e. never (sym w.yet ∙ ap (λ (i : ℕ). get_or p.state.grounded i false) (sym e) ∙ h)) ∙ h)
      (λ u w. h) (λ g y x. h)

  -- A trial that grounds a node sets its mark,
  pub marked : l.unknowns ≡ serving s l l.nodes → (i : ℕ) (p : Point) → Room l p.state → (v : ℕ) → Grounds s l (after_trials s l i p).state v → get_or (after_trials s l (suc i) p).state.grounded v false ≡ true
  marked right i p w v g =
      let at = after_trials s l i p in
      ap (λ (t : State). get_or t.grounded v false) (each_state s l i p)
      ∙ ap (λ (o : Outcome). get_or o.state.grounded v false) (trial_grounds s l at.damping at.state v g)
      ∙ get_or-set_same at.state.grounded v true false (omega (arith, (room_after s l right i p w).grounded, (stop_node_lem s l right at.state v g.stops).0))
