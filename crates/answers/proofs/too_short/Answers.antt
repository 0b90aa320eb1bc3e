-- `answers::too_short` meets its contract. Assumes nothing.
use native.Mathlib.Omega.{arith}
use mathlib.Core.Path.{refl}
use borrow.Author.Tests.{lt-ltb, le-ltb}
use Rattle.answers.specs.Answers.{too_short}
use Rattle.answers.proofs.too_short.Goals as goal

pub returns-then-heads-l : goal.returns-then-heads-l
unfolding too_short
returns-then-heads-l c = rw (lt-ltb _ _ c.if-heads-l.true)

pub returns-then-demands-l : goal.returns-then-demands-l
unfolding too_short
returns-then-demands-l c = rw (le-ltb _ _ c.if-heads-l.false, lt-ltb _ _ c.if-demands-l.true)

pub returns-then-flows-l : goal.returns-then-flows-l
unfolding too_short
returns-then-flows-l c = rw (le-ltb _ _ c.if-heads-l.false, le-ltb _ _ c.if-demands-l.false, lt-ltb _ _ c.if-flows-l.true)

pub returns-then-statuses-l : goal.returns-then-statuses-l
unfolding too_short
returns-then-statuses-l c = rw (le-ltb _ _ c.if-heads-l.false, le-ltb _ _ c.if-demands-l.false, le-ltb _ _ c.if-flows-l.false, lt-ltb _ _ c.if-statuses-l.true)

pub returns-then-entries-trials : goal.returns-then-entries-trials
unfolding too_short
returns-then-entries-trials c = rw (le-ltb _ _ c.if-heads-l.false, le-ltb _ _ c.if-demands-l.false, le-ltb _ _ c.if-flows-l.false, le-ltb _ _ c.if-statuses-l.false, lt-ltb _ _ c.if-entries-trials.true)

pub returns-then-scratch-lt4096 : goal.returns-then-scratch-lt4096
unfolding too_short
returns-then-scratch-lt4096 c = rw (le-ltb _ _ c.if-heads-l.false, le-ltb _ _ c.if-demands-l.false, le-ltb _ _ c.if-flows-l.false, le-ltb _ _ c.if-statuses-l.false, le-ltb _ _ c.if-entries-trials.false, lt-ltb _ _ c.if-scratch-lt4096.true)

pub returns : goal.returns
unfolding too_short
returns c = rw (le-ltb _ _ c.if-heads-l.false, le-ltb _ _ c.if-demands-l.false, le-ltb _ _ c.if-flows-l.false, le-ltb _ _ c.if-statuses-l.false, le-ltb _ _ c.if-entries-trials.false, le-ltb _ _ c.if-scratch-lt4096.false)
