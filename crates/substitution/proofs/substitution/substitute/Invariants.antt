-- `substitution::substitution::substitute` meets its contract. The invariants: k unknowns are known, and the rows after them less their terms; what is left of back substitution comes to the whole, and where nothing was found the unknowns so far are finite. Assumes nothing.
use Prim.Native.Nat.{ℕ, ◌-◌, ◌≤◌, ◌<◌}
use mathlib.Core.Path.{◌≡◌}
use lib.Dec.{T}
use lib.ListN.{length, get_or}
use lib.Ieee.{nan}
use lib.Ieee.Scale.{finite}
use Rattle.substitution.specs.Substitution.{back}
use Rattle.substitution.proofs.SubstituteTurns.{known}
use Rattle.substitution.proofs.substitution.substitute.Given as goal

abbrev pub invariant-loop-k : goal.invariant-loop-k
invariant-loop-k l = (l.k ≤ l.n) × (length l.x ≡ length l.initial.x) × (l.x ≡ known l.l l.n l.k l.initial.x)

abbrev pub decreases-loop-k : goal.decreases-loop-k
decreases-loop-k l = l.n - l.k

abbrev pub invariant-loop-r : goal.invariant-loop-r
invariant-loop-r l =
    (length l.x ≡ length l.initial.x)
    × (back l.l l.n l.r l.x ≡ back l.l l.n l.n l.initial.x)
    × (l.found ≤ l.n - l.r)
    × (l.found ≡ 0 → (k : ℕ) → l.r ≤ k → k < l.n → T (finite (get_or l.x k nan)))
