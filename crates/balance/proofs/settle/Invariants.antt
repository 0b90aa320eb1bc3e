-- `balance::settle` meets its contract. Assumes nothing.
use Rattle.balance.specs.Balance.{settled_of}
use Rattle.balance.proofs.Turns.{no_settled, next_settled}
use Rattle.columns.proofs.Laws.{add_long}
use native.Mathlib.Omega.{arith}
use Prim.Native.Nat.{ℕ, ◌-◌, ◌≤◌}
use mathlib.Core.Path.{◌≡◌, refl, ap, ◌∙◌}
use lib.ListN.{length}
use Rattle.balance.proofs.settle.Given as goal

abbrev pub invariant-loop-i : goal.invariant-loop-i
invariant-loop-i l = (l.i ≤ l.nodes) × (l.demands ≡ settled_of l.i l.initial.demands) × (length l.demands ≡ length l.initial.demands)

abbrev pub decreases-loop-i : goal.decreases-loop-i
decreases-loop-i l = l.nodes - l.i
