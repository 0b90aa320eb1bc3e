-- `patterns::pattern` meets its contract. Assumes nothing.
use lib.Ieee.{to_bits}
use borrow.Author.Rules.{rules}
use Rattle.patterns.proofs.Nans.{is_nan_lem, has_pattern}
use Rattle.patterns.proofs.pattern.Goals as goal

pub returns-then-x : goal.returns-then-x
unfolding to_bits
returns-then-x c = rw (is_nan_lem _ c.if-x.true)

pub float_to_bits-result : goal.float_to_bits-result
float_to_bits-result c = has_pattern _ c.if-x.false
