-- `state::put_heads` meets its contract. Assumes nothing.
use Rattle.state.specs.State.{solved_heads}
use mathlib.Core.Path.{◌≡◌}
use lib.ListN.{length}
use Rattle.state.proofs.put_heads.Given as goal

abbrev pub invariant-loop-i : goal.invariant-loop-i
invariant-loop-i l = (l.heads ≡ solved_heads l.sheet l.fn.l l.x l.i l.initial.heads) × (length l.heads ≡ length l.initial.heads)
