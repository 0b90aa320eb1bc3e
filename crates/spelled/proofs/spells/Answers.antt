-- `spelled::spells` meets its contract. Assumes nothing.
use mathlib.Core.Path.{sym, ◌∙◌}
use native.Mathlib.Omega.{arith}
use Rattle.spelled.specs.Spelled.{capital_of, spelled_as}
use Rattle.spelled.proofs.Agree.{other_length, first, next, differs, ended}
use Rattle.spelled.proofs.spells.Goals as goal

pub returns-then-word-keyword : goal.returns-then-word-keyword
unfolding spelled_as
returns-then-word-keyword c = sym (other_length capital_of _ _ c.if-word-keyword.true)

pub loop-i-init : goal.loop-i-init
loop-i-init c = first capital_of _ _ c.if-word-keyword.false

pub returns-then-capital-keyword : goal.returns-then-capital-keyword
unfolding spelled_as
returns-then-capital-keyword c = differs capital_of c.loop-i.invariant (omega arith) (λ e. c.if-capital-keyword.true (c.capital.ensures ∙ e))

pub loop-i-preserved : goal.loop-i-preserved
unfolding spelled_as
loop-i-preserved c = next capital_of c.loop-i.invariant (omega arith) (sym c.capital.ensures ∙ c.if-capital-keyword.false)

pub returns : goal.returns
unfolding spelled_as
returns c = ended capital_of c.loop-i.invariant (omega arith)
