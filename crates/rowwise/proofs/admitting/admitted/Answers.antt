-- `rowwise::admitting::admitted` meets its contract. Assumes nothing.
use native.Mathlib.Omega.{arith}
use mathlib.Core.Path.{sym, ◌∙◌}
use borrow.Author.Tests.{lt-ltb, le-ltb, eq-eqb, ne_eqb}
use Rattle.rowwise.specs.Evening.{admitted_of}
use Rattle.rowwise.proofs.admitting.admitted.Goals as goal

pub returns-then-n-lt4096 : goal.returns-then-n-lt4096
unfolding admitted_of
returns-then-n-lt4096 c = rw (lt-ltb _ _ c.if-n-lt4096.true)

pub returns-then-rows-eq0 : goal.returns-then-rows-eq0
unfolding admitted_of
returns-then-rows-eq0 c = rw (le-ltb _ _ c.if-n-lt4096.false, eq-eqb _ _ c.if-rows-eq0.true)

pub returns-then-rows-gt32 : goal.returns-then-rows-gt32
unfolding admitted_of
returns-then-rows-gt32 c = rw (le-ltb _ _ c.if-n-lt4096.false, ne_eqb _ _ c.if-rows-eq0.false, lt-ltb _ _ c.if-rows-gt32.true)

pub any_lacks-requires : goal.any_lacks-requires
any_lacks-requires c = (c.if-rows-gt32.false, c.requires.0, c.requires.1, c.requires.2, c.requires.3)

pub returns-then-any_lacks : goal.returns-then-any_lacks
unfolding admitted_of
returns-then-any_lacks c = rw (le-ltb _ _ c.if-n-lt4096.false, ne_eqb _ _ c.if-rows-eq0.false, le-ltb _ _ c.if-rows-gt32.false, sym c.any_lacks.ensures ∙ c.if-any_lacks.true)

pub returns : goal.returns
unfolding admitted_of
returns c = rw (le-ltb _ _ c.if-n-lt4096.false, ne_eqb _ _ c.if-rows-eq0.false, le-ltb _ _ c.if-rows-gt32.false, sym c.any_lacks.ensures ∙ c.if-any_lacks.false)
