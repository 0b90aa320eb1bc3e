-- `zeros::minus_zero` meets its contract. Assumes nothing.
use mathlib.Core.Path.{subst, sym}
use lib.Dec.{T}
use Rattle.zeros.proofs.Zeros.{zero_number, zero_test, other_test}
use Rattle.zeros.proofs.minus_zero.Goals as goal

pub float_to_bits-result : goal.float_to_bits-result
float_to_bits-result c = zero_number _ c.if-x.true

pub returns-then-x : goal.returns-then-x
returns-then-x c = zero_test _ (subst T (sym c.well_formed.0.1) tt) c.if-x.true

pub returns : goal.returns
returns c = other_test _ c.if-x.false
