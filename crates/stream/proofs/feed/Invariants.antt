-- `stream::feed` meets its contract. The invariant: what is left to read gives the same end. Assumes nothing.
use native.Mathlib.Omega.{arith}
use borrow.Author.Rules.{rules}
use Prim.Native.Nat.{◌+◌, ◌-◌, ◌≤◌}
use mathlib.Core.Path.{◌≡◌, refl}
use lib.ListN.{length, drop}
use Rattle.stream.specs.Stream.{fed_of, count_of}
use Rattle.stream.proofs.Steps.{turn_count, fed_turn, fed_end}
use Rattle.stream.proofs.feed.Given as goal

abbrev pub invariant-loop-i : goal.invariant-loop-i
invariant-loop-i l = (l.i ≤ l.i-end) × (count_of l.q ≤ count_of l.initial.q + l.i) × (fed_of l.q (drop l.i l.bytes) ≡ fed_of l.initial.q l.bytes)

abbrev pub decreases-loop-i : goal.decreases-loop-i
decreases-loop-i l = l.i-end - l.i
