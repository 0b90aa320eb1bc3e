-- `rowwise::admitting::lacks` meets its contract. Assumes nothing.
use native.Mathlib.Omega.{arith}
use mathlib.Core.Path.{refl}
use Rattle.rowwise.proofs.Laws.{product_few}
use Rattle.rowwise.proofs.admitting.lacks.Goals as goal

pub overflow_mul-result : goal.overflow_mul-result
overflow_mul-result c = omega (arith, product_few 32 800 c.requires.0 c.requires.1)

pub returns : goal.returns
returns c = refl
