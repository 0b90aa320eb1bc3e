-- `stream::feed` meets its contract. The invariant: what is left to read gives the same end. Assumes nothing.
use native.Mathlib.Omega.{arith}
use borrow.Author.Rules.{rules}
use Prim.Native.Nat.{◌+◌, ◌-◌, ◌≤◌}
use mathlib.Core.Path.{◌≡◌, refl}
use lib.ListN.{length, drop}
use Rattle.stream.specs.Stream.{fed_of, count_of}
use Rattle.stream.proofs.Steps.{turn_count, fed_turn, fed_end}
use Rattle.stream.proofs.feed.Goals as goal

pub loop-i-init : goal.loop-i-init
loop-i-init c = (omega arith, omega arith, refl)

pub loop-i-preserved : goal.loop-i-preserved
loop-i-preserved c = (omega arith, omega (arith, c.loop-i.invariant.1, turn_count _ _ _ c.step-q.ensures), fed_turn _ _ _ _ _ c.loop-i-test.true c.step-q.ensures c.loop-i.invariant.2)

pub returns-clause-fed : goal.returns-clause-fed
returns-clause-fed c = fed_end _ _ _ _ c.loop-i-test.false c.loop-i.invariant.2

pub returns-clause-count : goal.returns-clause-count
returns-clause-count c = omega (arith, c.loop-i.invariant.1, c.loop-i.invariant.0)
