-- `stream::in_pressures` meets its contract. Assumes nothing.
use mathlib.Core.Path.{sym, ◌∙◌}
use borrow.Author.Rules.{rules}
use Rattle.stream.proofs.Steps.{pressures_stop, pressures_more, pressures_whole}
use Rattle.stream.proofs.in_pressures.Goals as goal

pub returns-then-got-lt17 : goal.returns-then-got-lt17
returns-then-got-lt17 c = pressures_more _ _ (sym c.fits.ensures ∙ c.if-fits.true) c.if-got-lt17.true

pub returns-then-fits : goal.returns-then-fits
returns-then-fits c = pressures_whole _ _ (sym c.fits.ensures ∙ c.if-fits.true) c.if-got-lt17.false

pub returns : goal.returns
returns c = pressures_stop _ _ (sym c.fits.ensures ∙ c.if-fits.false)
