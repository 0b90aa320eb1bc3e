-- `bends::bend_nodes` meets its contract. Assumes nothing.
use Rattle.bends.proofs.Laws.{Bent, none_bent, next_bent, bent_whole}
use borrow.Author.Rules.{rules}
use native.Mathlib.Omega.{arith}
use Prim.Native.Nat.{ℕ, suc, ◌+◌, ◌*◌, ◌-◌, ◌≤◌, ◌<◌}
use mathlib.Core.Path.{◌≡◌, refl, sym, ap, ◌∙◌}
use native.Mathlib.Numerals.{add-one}
use lib.ListN.{length, get_or, set, length-set}
use Rattle.bends.proofs.bend_nodes.Given as goal

abbrev pub invariant-loop-i : goal.invariant-loop-i
invariant-loop-i l = Bent l.sheet l.l l.p l.asked l.drawn l.initial.matrix l.initial.rhs l.matrix l.rhs l.i

abbrev pub decreases-loop-i : goal.decreases-loop-i
decreases-loop-i l = l.l.nodes - l.i
