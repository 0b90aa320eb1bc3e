-- `balance::total_demand` meets its contract. Assumes nothing.
use mathlib.Core.Logic.{⊎_elim}
use Rattle.balance.specs.Balance.{demand_of}
use Rattle.balance.proofs.Turns.{no_demand, demand_in, demand_out}
use native.Mathlib.Omega.{arith}
use Prim.Native.Nat.{◌-◌, ◌≤◌}
use mathlib.Core.Path.{◌≡◌, sym, ap, ◌∙◌}
use Rattle.balance.proofs.total_demand.Given as goal

abbrev pub invariant-loop-i : goal.invariant-loop-i
invariant-loop-i l = (l.i ≤ l.l.nodes) × (l.total ≡ demand_of l.sheet l.l l.demands l.i)

abbrev pub decreases-loop-i : goal.decreases-loop-i
decreases-loop-i l = l.l.nodes - l.i
