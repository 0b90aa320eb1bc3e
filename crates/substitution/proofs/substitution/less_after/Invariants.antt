-- `substitution::substitution::less_after` meets its contract. The invariant: s is the row's right side less the terms up to k, and not -0.0 where terms are left out. Assumes nothing.
use Prim.Native.Nat.{suc, ◌-◌, ◌≤◌, ◌<◌}
use mathlib.Core.Bool.{true}
use mathlib.Core.Path.{◌≡◌}
use Rattle.zeros.specs.Zeros.{Firm}
use Rattle.substitution.specs.Substitution.{after}
use Rattle.substitution.proofs.substitution.less_after.Given as goal

abbrev pub invariant-loop-k : goal.invariant-loop-k
invariant-loop-k l = (l.r < l.k) × (l.k ≤ l.n) × (l.s ≡ after l.l l.x l.r (l.k - suc l.r)) × (l.skip ≡ true → Firm l.s)
