-- `roots::square_root::nearest_root` meets its contract. The invariant is `Digits`. Assumes nothing.
use Prim.Native.Nat.{◌*◌, ◌^◌, ◌≤◌}
use mathlib.Core.Path.{refl}
use native.Mathlib.Omega.{arith}
use borrow.Author.Rules.{rules}
use Rattle.roots.proofs.Digits.{Digits, start, bound, turn, rounded_up, rounded_down}
use Rattle.roots.proofs.square_root.nearest_root.Given as goal

abbrev pub invariant-loop-w : goal.invariant-loop-w
invariant-loop-w l = Digits (l.n * 2 ^ 54) l.x l.w l.q l.v l.last l.most

abbrev pub decreases-loop-w : goal.decreases-loop-w
decreases-loop-w l = l.w
