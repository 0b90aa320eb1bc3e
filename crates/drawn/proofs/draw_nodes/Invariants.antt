-- `drawn::draw_nodes` meets its contract. Assumes nothing.
use Rattle.drawn.specs.Drawn.{draws}
use Rattle.drawn.proofs.Laws.{Drawn, none_drawn, next_drawn, drawn_whole}
use borrow.Author.Rules.{rules}
use native.Mathlib.Omega.{arith}
use Prim.Native.Nat.{ℕ, suc, ◌+◌, ◌*◌, ◌-◌, ◌≤◌, ◌<◌}
use mathlib.Core.Path.{◌≡◌}
use native.Mathlib.Numerals.{add-one}
use lib.ListN.{length, get_or, set, length-set}
use Rattle.drawn.proofs.draw_nodes.Given as goal

abbrev pub invariant-loop-i : goal.invariant-loop-i
invariant-loop-i l = Drawn l.sheet l.l l.p l.heads l.factor l.asked l.initial.drawn l.initial.moved l.drawn l.moved l.i

abbrev pub decreases-loop-i : goal.decreases-loop-i
decreases-loop-i l = l.l.nodes - l.i
