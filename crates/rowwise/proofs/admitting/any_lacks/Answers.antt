-- `rowwise::admitting::any_lacks` meets its contract. Assumes nothing.
use native.Mathlib.Omega.{arith}
use Rattle.rowwise.specs.Evening.{lacking}
use Rattle.rowwise.proofs.admitting.any_lacks.Goals as goal

pub returns : goal.returns
unfolding lacking
returns c = rw (c.lacks.ensures, c.lacks-2.ensures, c.lacks-3.ensures, c.lacks-4.ensures, c.lacks-5.ensures, c.lacks-6.ensures, c.lacks-7.ensures, c.lacks-8.ensures)
