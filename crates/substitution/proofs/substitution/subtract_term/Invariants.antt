-- `substitution::substitution::subtract_term` meets its contract. The invariant: the rows down to r are less the term of unknown k. Assumes nothing.
use Prim.Native.Nat.{suc, ◌-◌, ◌≤◌, ◌<◌}
use mathlib.Core.Path.{◌≡◌}
use lib.ListN.{length, get_or}
use lib.Ieee.{nan}
use Rattle.substitution.specs.Substitution.{less_term}
use Rattle.substitution.proofs.substitution.subtract_term.Given as goal

abbrev pub invariant-loop-r : goal.invariant-loop-r
invariant-loop-r l = (length l.x ≡ length l.initial.x) × (l.k < l.r) × (l.r ≤ l.n) × (l.y ≡ get_or l.initial.x l.k nan) × (l.x ≡ less_term l.l l.k (l.r - suc l.k) l.initial.x)

abbrev pub decreases-loop-r : goal.decreases-loop-r
decreases-loop-r l = l.n - l.r
