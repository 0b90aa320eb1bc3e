-- `balance::total_supply` meets its contract. Assumes nothing.
use Rattle.balance.specs.Balance.{supply_of}
use Rattle.balance.proofs.Turns.{no_supply, next_supply}
use native.Mathlib.Omega.{arith}
use Prim.Native.Nat.{ℕ, ◌-◌, ◌≤◌, ◌<◌}
use mathlib.Core.Path.{◌≡◌, sym, ap, subst, ◌∙◌}
use Rattle.balance.proofs.total_supply.Given as goal

abbrev pub invariant-loop-j : goal.invariant-loop-j
invariant-loop-j l = (l.j ≤ l.l.links) × (l.supply ≡ supply_of l.sheet l.l l.flows l.j)

abbrev pub decreases-loop-j : goal.decreases-loop-j
decreases-loop-j l = l.l.links - l.j
