-- `stream::end_in_links` meets its contract. Assumes nothing.
use Prim.Native.Nat.{ℕ, ◌+◌, ◌*◌}
use mathlib.Core.Path.{ap}
use native.Mathlib.Omega.{arith}
use borrow.Author.Rules.{rules}
use borrow.Author.Tests.{eq-eqb}
use Rattle.stream.specs.Stream.{end_in_links}
use Rattle.stream.proofs.Steps.{headed, cut_link}
use Rattle.stream.proofs.end_in_links.Goals as goal

pub overflow_add-result : goal.overflow_add-result
overflow_add-result c = record { fits = omega (arith, headed c.args.pressures _ c.heading.ensures) }

pub overflow_add-result-then-got-ne0 : goal.overflow_add-result-then-got-ne0
overflow_add-result-then-got-ne0 c = record { fits = omega (arith, headed c.args.pressures _ c.heading.ensures) }

pub returns-then-got-ne0 : goal.returns-then-got-ne0
returns-then-got-ne0 c = cut_link c.args.pressures c.args.n c.args.k c.args.got _ (ap (λ (h : ℕ). h + 45 * c.args.n + 49 * c.args.k) c.heading.ensures) c.if-got-ne0.true

pub returns-then-n : goal.returns-then-n
unfolding end_in_links
returns-then-n c = rw (eq-eqb _ 0 c.if-got-ne0.false, c.if-n.true)

pub returns : goal.returns
unfolding end_in_links
returns c = rw (eq-eqb _ 0 c.if-got-ne0.false, c.if-n.false)
