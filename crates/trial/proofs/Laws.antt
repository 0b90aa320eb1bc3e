-- One trial over plain variables: what the calls leave, put together. Assumes nothing.
use Prim.Native.Nat.{ℕ, ◌*◌, ◌<◌}
use mathlib.Core.Path.{◌≡◌, sym, ap, ◌∙◌}
use mathlib.Core.List.{List}
use mathlib.Core.Bool.{Bool}
use native.Mathlib.Omega.{arith}
use lib.ListN.{length}
use lib.Ieee.{Float}
use Rattle.linear.specs.Factorization.{factor_of, Factored}
use Rattle.substitution.specs.Substitution.{solved}
use Rattle.linear.specs.declared.factorization.UnknownIndex.{UnknownIndex}
use Rattle.columns.specs.Columns.{cleared, zeros}
use Rattle.columns.proofs.Laws.{zeros_long}
use Rattle.linear.proofs.Laws.{stops_below}
use Rattle.layout.specs.declared.places.Layout.{Layout}
use Rattle.nodes.specs.Nodes.{serving}
use Rattle.numbering.specs.Numbering.{node_numbered}
use Rattle.nodes.specs.declared.NodeIndex.{NodeIndex}
use Rattle.numbering.proofs.Rows.{node_of}
use Rattle.drawing.specs.Drawing.{counting}
use Rattle.excess.specs.Excess.{excess_of}
use Rattle.assembly.specs.Assembly.{System, system, view, assemble_of}
use Rattle.assembly.proofs.Tail.{factors_wiped}
use Rattle.assembly.proofs.Kept.{assemble_long}
use Rattle.state.specs.Network.{Network}
use Rattle.assembly.proofs.Fresh.{fresh}
use Rattle.state.specs.State.{State, state}
use Rattle.repair.specs.Repair.{repaired, repair_at}
use Rattle.damping.specs.declared.steps.Damping.{Damping}
use Rattle.entries.specs.declared.Entry.{Entry}
use Rattle.trial.specs.Trial.{Outcome, outcome, Repair, repair_of, step_of, factored, system_of, factors_of, trial_with}
use Rattle.std.specs.Prelude.{Err, Ok}

module _ (s : List ℕ) (l : Layout) (t : State) (m₀ counted e m r g y : List Float) where
  pub system_of_lem : length m₀ ≡ 4096 → counted ≡ counting l.pressures t.drawn t.demands → e ≡ excess_of s l counted t.flows (zeros 64)
      → system m r g y ≡ assemble_of s l (view t.heads t.flows t.statuses e) t.demands t.drawn t.grounded (system m₀ (zeros 64) (zeros 128) (zeros 128))
      → system m r g y ≡ system_of s l t
  unfolding system_of
  system_of_lem h ec ex built =
      rw (← ec, ← ex)
      (built ∙ fresh s l (view t.heads t.flows t.statuses e) t.demands t.drawn t.grounded m₀ (zeros 4096) (zeros 64) (zeros 64) (zeros 128) (zeros 128) h (zeros_long 4096) (zeros_long 64) (zeros_long 64))

-- the two ways of a trial, whatever the repair: x are the factors, f the factorization's answer
module _ (repair : Repair) (s : List ℕ) (l : Layout) (d : Damping) (t : State) (m r g y x : List Float) (f : Factored) (o : Outcome)
    (assembled : system m r g y ≡ system_of s l t) (left : x ≡ (factor_of l.unknowns m).matrix) (answered : f ≡ (factor_of l.unknowns m).answer) where
  pub trial_stops : (u : UnknownIndex) → f ≡ Err u → o ≡ repair s l t (node_numbered s l l.nodes u.0) → o ≡ trial_with repair s l d t
  unfolding trial_with factored
  trial_stops u e h = rw (← assembled, ← answered, e) h

  pub trial_steps : (w : List Float) → f ≡ (Ok tt) → w ≡ solved x l.unknowns r → o ≡ step_of s l d t g y w → o ≡ trial_with repair s l d t
  unfolding trial_with factored
  trial_steps w e h z = rw (← assembled, ← answered, e, ← left, ← h) z

pub factors_left : (s : List ℕ) (l : Layout) (t : State) (m r g y x : List Float) → system m r g y ≡ system_of s l t → x ≡ (factor_of l.unknowns m).matrix → x ≡ factors_of s l t
unfolding factors_of
factors_left s l t m r g y x a h = h ∙ ap (λ (b : System). (factor_of l.unknowns b.matrix).matrix) a

-- the node of an unknown at which the factorization stopped is one of the nodes
pub failing_below : (s : List ℕ) (l : Layout) (m : List Float) (f : Factored) (u : UnknownIndex) (node : NodeIndex) → l.unknowns ≡ serving s l l.nodes
    → f ≡ (factor_of l.unknowns m).answer → f ≡ Err u → node ≡ record { 0 = node_numbered s l l.nodes u.0 } → node.0 < l.nodes
failing_below s l m f u node counted answered stopped e =
    let i : node.0 ≡ node_numbered s l l.nodes u.0 = ap (λ (k : NodeIndex). k.0) e in
    omega (arith, i, (node_of s l l.nodes u.0 (omega (arith, stops_below l.unknowns m u (sym answered ∙ stopped), counted))).below)

pub repair_of_lem : (s : List ℕ) (l : Layout) (t : State) (i : ℕ) (node : NodeIndex) (r : Entry) (codes : List ℕ) (marks : List Bool)
    → node ≡ record { 0 = i } → repaired r codes marks ≡ repair_at s l t.statuses t.grounded node.0
    → outcome r (state t.heads t.demands t.drawn t.flows codes marks) ≡ repair_of s l t i
unfolding repair_of
repair_of_lem s l t i node r codes marks e h =
    let p : node.0 ≡ i = ap (λ (k : NodeIndex). k.0) e in
    rw (← p, ← h)

-- the factors that a trial leaves are gone, and all is +0.0 again, once the unknowns' columns are cleared
pub factors_cleared : (s : List ℕ) (l : Layout) (t : State) → Network l s → cleared (64 * l.unknowns) (factors_of s l t) ≡ zeros 4096
unfolding factors_of system_of
factors_cleared s l t net =
    let e = excess_of s l (counting l.pressures t.drawn t.demands) t.flows (zeros 64) in
    let v = view t.heads t.flows t.statuses e in
    let w = system (zeros 4096) (zeros 64) (zeros 128) (zeros 128) in
    factors_wiped s l v t.demands t.drawn t.grounded w net.nodes net.unknowns net.ends (zeros_long 4096) ((assemble_long s l v t.demands t.drawn t.grounded w).matrix ∙ zeros_long 4096)
