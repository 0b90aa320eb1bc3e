-- `reach::sweep` meets its contract: the links before j are followed. Assumes nothing.
use native.Mathlib.Omega.{arith}
use Prim.Native.Nat.{ℕ, ◌-◌, ◌≤◌}
use mathlib.Core.Path.{◌≡◌, refl, ap, ◌∙◌}
use lib.ListN.{length}
use Rattle.reach.specs.Reach.{swept, stirred}
use Rattle.reach.proofs.Laws.{below, sweep_none, sweep_next, follow_long}
use Rattle.reach.proofs.sweep.Given as goal

abbrev pub invariant-loop-j : goal.invariant-loop-j
invariant-loop-j l =
    (l.j ≤ l.links) × ((l.reached ≡ swept l.starts l.ends l.joins l.j l.initial.reached) × (l.changed ≡ stirred l.starts l.ends l.joins l.j l.initial.reached)) × (length l.reached ≡ length l.initial.reached)

abbrev pub decreases-loop-j : goal.decreases-loop-j
decreases-loop-j l = l.links - l.j
