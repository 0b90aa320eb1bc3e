-- `stream::fits` meets its contract. Assumes nothing.
use Rattle.stream.proofs.Steps.{fits_first, fits_second, fits_rest}
use Rattle.stream.proofs.fits.Goals as goal

pub returns-then-got-eq0 : goal.returns-then-got-eq0
returns-then-got-eq0 c = fits_first _ _ _ _ c.if-got-eq0.true

pub returns-then-got-eq1 : goal.returns-then-got-eq1
returns-then-got-eq1 c = fits_second _ _ _ _ c.if-got-eq0.false c.if-got-eq1.true

pub returns : goal.returns
returns c = fits_rest _ _ _ _ c.if-got-eq0.false c.if-got-eq1.false
