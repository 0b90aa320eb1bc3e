-- `float::sign::signum` meets its contract. Assumes nothing.
use mathlib.Core.Path.{subst, sym}
use lib.Dec.{T}
use lib.Ieee.{binary64, fits, of_bits, of_fields, odd, neg}
use lib.Count.{count_trailing_zeros}
use Rattle.float.specs.Sign.{signum_of}
use Rattle.patterns.proofs.Nans.{is_nan_lem, not_nan, has_pattern}
use Rattle.float.proofs.Signs.{plus, minus}
use Rattle.float.proofs.sign.signum.Goals as goal

pub returns-then-x : goal.returns-then-x
unfolding signum_of
returns-then-x c = rw (is_nan_lem _ c.if-x.true)

pub float_to_bits-x : goal.float_to_bits-x
float_to_bits-x c = has_pattern _ c.if-x.false

pub returns-then-x-lt9223372036854775808 : goal.returns-then-x-lt9223372036854775808
unfolding of_bits of_fields odd count_trailing_zeros
returns-then-x-lt9223372036854775808 c =
    let held : T (fits binary64 c.args.x) = subst T (sym c.well_formed.0.1) tt in
    plus _ held (not_nan _ c.if-x.false) c.if-x-lt9223372036854775808.true

pub returns-else-x-lt9223372036854775808 : goal.returns-else-x-lt9223372036854775808
unfolding of_bits of_fields odd neg count_trailing_zeros
returns-else-x-lt9223372036854775808 c =
    let held : T (fits binary64 c.args.x) = subst T (sym c.well_formed.0.1) tt in
    minus _ held (not_nan _ c.if-x.false) c.if-x-lt9223372036854775808.false
