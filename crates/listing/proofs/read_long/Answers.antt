-- `listing::read_long` is safe: each turn reads at most 65,536 records. Assumes nothing.
use borrow.Author.Rules.{rules}
use native.Mathlib.Omega.{arith}
use mathlib.Core.Path.{refl}
use lib.ListN.{length-take}
use Rattle.stream.specs.Stream.{count_of}
use Rattle.listing.proofs.read_long.Goals as goal

pub feed-p-requires : goal.feed-p-requires
unfolding count_of
feed-p-requires g c = omega arith

pub loop-turn-init : goal.loop-turn-init
unfolding count_of
loop-turn-init g c = (refl, omega arith, omega (arith, c.feed-p.ensures.count, c.requires))
