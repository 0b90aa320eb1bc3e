-- `stream::end_in_nodes` meets its contract. Assumes nothing.
use Prim.Native.Nat.{ℕ, ◌+◌, ◌*◌}
use mathlib.Core.Path.{ap}
use native.Mathlib.Omega.{arith}
use borrow.Author.Rules.{rules}
use borrow.Author.Tests.{eq-eqb}
use Rattle.stream.specs.Stream.{end_in_nodes}
use Rattle.stream.proofs.Steps.{headed, cut_node}
use Rattle.stream.proofs.end_in_nodes.Goals as goal

pub returns-then-got-eq0 : goal.returns-then-got-eq0
unfolding end_in_nodes
returns-then-got-eq0 c = rw (eq-eqb _ 0 c.if-got-eq0.true)

pub overflow_add-result : goal.overflow_add-result
overflow_add-result c = record { fits = omega (arith, headed c.args.pressures _ c.heading.ensures) }

pub returns : goal.returns
returns c = cut_node c.args.pressures c.args.n c.args.got _ (ap (λ (h : ℕ). h + 45 * c.args.n) c.heading.ensures) c.if-got-eq0.false
