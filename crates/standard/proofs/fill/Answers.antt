-- `standard::fill` stays within its buffer and ends: each turn but the last reads a byte, and what was read stands at
-- the buffer's start. Assumes nothing.
use mathlib.Core.Path.{refl}
use native.Mathlib.Omega.{arith}
use borrow.Author.Rules.{rules}
use Rattle.standard.proofs.Filling.{consumes_nil, consumes_more, consumes_none, prefix_len_of_le}
use Rattle.standard.proofs.fill.Goals as goal

pub loop-done-init : goal.loop-done-init
loop-done-init g c = (refl, omega arith, consumes_nil _)

pub loop-done-preserved : goal.loop-done-preserved
loop-done-preserved g c =
    let read = c.in_ok-more.ensures in
    (search rules, read.count, consumes_more _ _ _ _ _ _ _ read.front c.loop-done.invariant.2 read.bytes)

pub returns-then-more-eq0 : goal.returns-then-more-eq0
returns-then-more-eq0 g c =
    let read = c.in_ok-more.ensures in
    let none = c.if-more-eq0.true in
    record {
      count = prefix_len_of_le _ _ (omega (arith, read.count));
      bytes = consumes_none _ _ _ _ _ _ _ none read.front c.loop-done.invariant.2 read.bytes;
      end = λ _. read.end none (omega (arith, c.loop-done-test.true, c.in_ok-more.ensures.count));
    }

pub returns : goal.returns
returns g c =
    record {
      count = prefix_len_of_le _ _ c.loop-done.invariant.1;
      bytes = c.loop-done.invariant.2;
      end = λ less. absurd (omega (arith, less, c.loop-done-test.false));
    }
