-- `decimal_words::written::read_exponent` meets its contract. Assumes nothing.
use native.Mathlib.Omega.{arith}
use Rattle.decimal_words.proofs.Parts.{unsigned_is, none_there, too_large, good_exponent}
use Rattle.decimal_words.proofs.written.read_exponent.Goals as goal

pub returns-then-not-some : goal.returns-then-not-some
returns-then-not-some c = none_there c.args.e.now _ (unsigned_is c.args.e.now c.sign_length.ensures.value) c.all_digits.ensures c.if-not-some.true

pub returns-then-size-gt20 : goal.returns-then-size-gt20
returns-then-size-gt20 c = too_large c.args.e.now _ (unsigned_is c.args.e.now c.sign_length.ensures.value) c.all_digits.ensures c.small_value-size.ensures (omega (arith, c.if-size-gt20.true))

pub returns : goal.returns
returns c = good_exponent c.args.e.now _ (unsigned_is c.args.e.now c.sign_length.ensures.value) c.all_digits.ensures c.if-not-some.false c.small_value-size.ensures c.if-size-gt20.false c.is_negated.ensures
