-- `listing::read_long` is safe: each turn reads at most 65,536 records. Assumes nothing.
use Prim.Native.Nat.{◌+◌, ◌*◌, ◌≤◌}
use mathlib.Core.Path.{◌≡◌}
use lib.ListN.{length}
use Rattle.stream.specs.Stream.{count_of}
use Rattle.listing.proofs.read_long.Given as goal

abbrev pub invariant-loop-turn : goal.invariant-loop-turn
invariant-loop-turn g l = (length l.buffer ≡ length l.initial.buffer) × (l.turn ≤ 1099511627775) × (count_of l.p ≤ 65536 * (l.turn + 1))
