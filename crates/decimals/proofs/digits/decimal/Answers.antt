-- `decimals::digits::decimal` meets its contract. Assumes nothing.
use mathlib.Core.Path.{ap}
use native.Mathlib.Omega.{arith}
use lib.Ieee.{binary64, of_bits}
use Rattle.patterns.proofs.Nans.{no_nan}
use Rattle.decimals.proofs.Decimals.{small}
use Rattle.decimals.proofs.digits.decimal.Goals as goal

pub decimal_bits-requires : goal.decimal_bits-requires
decimal_bits-requires c = c.requires

pub float_from_bits-result : goal.float_from_bits-result
float_from_bits-result c = no_nan c.decimal_bits.result (omega (arith, c.decimal_bits.ensures, small c.args.d c.args.size c.args.negative c.requires))

pub returns : goal.returns
returns c = ap (of_bits binary64) c.decimal_bits.ensures
