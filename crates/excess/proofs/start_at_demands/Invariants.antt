-- `excess::start_at_demands` meets its contract. Assumes nothing.
use lib.Ieee.{nan, binary64, sub}
use Rattle.excess.specs.Excess.{minus_zero, less_demands}
use Rattle.excess.proofs.Turns.{demands_none, demands_next}
use native.Mathlib.Omega.{arith}
use Prim.Native.Nat.{ℕ, ◌-◌, ◌≤◌}
use mathlib.Core.Path.{◌≡◌, refl, ap, ◌∙◌}
use lib.ListN.{length, get_or, length-set}
use Rattle.excess.proofs.start_at_demands.Given as goal

abbrev pub invariant-loop-i : goal.invariant-loop-i
invariant-loop-i l = (l.i ≤ l.nodes) × (l.excess ≡ less_demands l.demands l.i l.initial.excess) × (length l.excess ≡ length l.initial.excess)

abbrev pub decreases-loop-i : goal.decreases-loop-i
decreases-loop-i l = l.nodes - l.i
