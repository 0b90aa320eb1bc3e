-- `patterns::from_bytes` meets its contract. Assumes nothing.
use mathlib.Core.Path.{◌∙◌, sym, ap}
use lib.Ieee.{binary64, div, of_bits, of_fields, odd}
use borrow.Author.Rules.{rules}
use Rattle.patterns.specs.Bytes.{from_bytes}
use Rattle.patterns.proofs.Nans.{to_nan, no_nan}
use Rattle.patterns.proofs.from_bytes.Goals as goal

pub returns-then-p-gt9218868437227405312 : goal.returns-then-p-gt9218868437227405312
unfolding from_bytes div of_bits of_fields odd
returns-then-p-gt9218868437227405312 c = sym (to_nan _ c.if-p-gt9218868437227405312.true) ∙ ap (of_bits binary64) c.eight_bytes-p.ensures

pub float_from_bits-result : goal.float_from_bits-result
float_from_bits-result c = no_nan _ c.if-p-gt9218868437227405312.false

pub returns : goal.returns
unfolding from_bytes
returns c = ap (of_bits binary64) c.eight_bytes-p.ensures
