-- `stream::in_nodes` meets its contract. Assumes nothing.
use Prim.Native.Nat.{ℕ, ◌+◌, ◌*◌}
use mathlib.Core.Path.{sym, ap, ◌∙◌}
use native.Mathlib.Omega.{arith}
use borrow.Author.Rules.{rules}
use Rattle.stream.proofs.Steps.{headed, nodes_stop, nodes_more, nodes_whole}
use Rattle.stream.proofs.in_nodes.Goals as goal

pub returns-then-got-lt44 : goal.returns-then-got-lt44
returns-then-got-lt44 c = nodes_more _ _ _ _ (sym c.fits.ensures ∙ c.if-fits.true) c.if-got-lt44.true

pub returns-then-fits : goal.returns-then-fits
returns-then-fits c = nodes_whole _ _ _ _ (sym c.fits.ensures ∙ c.if-fits.true) c.if-got-lt44.false

pub overflow_add-result-2 : goal.overflow_add-result-2
overflow_add-result-2 c = record { fits = omega (arith, headed c.args.pressures _ c.heading.ensures) }

pub returns : goal.returns
returns c = nodes_stop c.args.pressures c.args.n c.args.got c.args.b _ (ap (λ (h : ℕ). h + 45 * c.args.n) c.heading.ensures) (sym c.fits.ensures ∙ c.if-fits.false)
