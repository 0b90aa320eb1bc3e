-- `stream::in_options` meets its contract. Assumes nothing.
use mathlib.Core.Path.{sym, ◌∙◌}
use borrow.Author.Rules.{rules}
use Rattle.stream.proofs.Steps.{options_stop, options_more, options_whole}
use Rattle.stream.proofs.in_options.Goals as goal

pub returns-then-got-lt28 : goal.returns-then-got-lt28
returns-then-got-lt28 c = options_more _ _ (sym c.fits.ensures ∙ c.if-fits.true) c.if-got-lt28.true

pub returns-then-fits : goal.returns-then-fits
returns-then-fits c = options_whole _ _ (sym c.fits.ensures ∙ c.if-fits.true) c.if-got-lt28.false

pub returns : goal.returns
returns c = options_stop _ _ (sym c.fits.ensures ∙ c.if-fits.false)
