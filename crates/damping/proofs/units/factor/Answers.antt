-- `damping::units::factor` meets its contract. Assumes nothing.
use mathlib.Core.Path.{refl, sym}
use native.Mathlib.Omega.{arith}
use lib.Ieee.{nan, div, of_bits, of_fields, odd}
use lib.ListN.{get_or-eq_default}
use Rattle.damping.specs.Units.{factors, factor_of}
use borrow.Author.Rules.{rules}
use Rattle.damping.proofs.units.factor.Goals as goal

pub returns-then-unit-lt11 : goal.returns-then-unit-lt11
unfolding factor_of factors
returns-then-unit-lt11 c = refl

pub returns : goal.returns
unfolding factor_of factors div of_bits of_fields odd
returns c = sym (get_or-eq_default factors nan {n = c.args.unit} (omega arith))
