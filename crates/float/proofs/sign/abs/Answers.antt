-- `float::sign::abs` meets its contract. Assumes nothing.
use mathlib.Core.Path.{subst, sym}
use lib.Dec.{T}
use lib.Ieee.{binary64, fits, of_bits, of_fields, odd}
use Rattle.float.proofs.Signs.{below_zero, zero_is, other}
use Rattle.float.proofs.sign.abs.Goals as goal

pub returns-then-x : goal.returns-then-x
unfolding of_bits of_fields odd
returns-then-x c = below_zero _ c.if-x.true

pub returns-then-x-2 : goal.returns-then-x-2
unfolding of_bits of_fields odd
returns-then-x-2 c =
    let held : T (fits binary64 c.args.x) = subst T (sym c.well_formed.0.1) tt in
    zero_is _ held c.if-x-2.true

pub returns : goal.returns
unfolding of_bits of_fields odd
returns c = other _ c.if-x.false c.if-x-2.false
