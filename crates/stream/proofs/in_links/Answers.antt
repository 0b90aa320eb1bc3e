-- `stream::in_links` meets its contract. Assumes nothing.
use Prim.Native.Nat.{ℕ, ◌+◌, ◌*◌}
use mathlib.Core.Path.{sym, ap, ◌∙◌}
use native.Mathlib.Omega.{arith}
use borrow.Author.Rules.{rules}
use Rattle.stream.proofs.Steps.{headed, links_stop, links_more, links_whole}
use Rattle.stream.proofs.in_links.Goals as goal

pub returns-then-got-lt48 : goal.returns-then-got-lt48
returns-then-got-lt48 c = links_more _ _ _ _ _ (sym c.fits.ensures ∙ c.if-fits.true) c.if-got-lt48.true

pub returns-then-fits : goal.returns-then-fits
returns-then-fits c = links_whole _ _ _ _ _ (sym c.fits.ensures ∙ c.if-fits.true) c.if-got-lt48.false

pub overflow_add-result-2 : goal.overflow_add-result-2
overflow_add-result-2 c = record { fits = omega (arith, headed c.args.pressures _ c.heading.ensures) }

pub overflow_add-result-3 : goal.overflow_add-result-3
overflow_add-result-3 c = record { fits = omega (arith, headed c.args.pressures _ c.heading.ensures) }

pub returns : goal.returns
returns c = links_stop c.args.pressures c.args.n c.args.k c.args.got c.args.b _ (ap (λ (h : ℕ). h + 45 * c.args.n + 49 * c.args.k) c.heading.ensures) (sym c.fits.ensures ∙ c.if-fits.false)
