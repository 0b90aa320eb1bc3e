-- `decimal_words::written::read_mantissa` meets its contract. Assumes nothing.
use mathlib.Core.Path.{refl, ap, ◌∙◌}
use Prim.Native.Nat.{ℕ}
use native.Mathlib.Omega.{arith}
use lib.ListN.{take}
use Rattle.decimal_words.specs.Numbers.{all_digits, value_from}
use Rattle.decimal_words.proofs.Parts.{long_mantissa, no_short_mantissa, short_few, short_mantissa}
use Rattle.decimal_words.proofs.written.read_mantissa.Goals as goal

pub returns-then-count-gt17 : goal.returns-then-count-gt17
returns-then-count-gt17 c = long_mantissa c.args.m.now (take c.before_point-point.result c.args.m.now) c.bytes_behind-part.result.now c.before_point-point.result (all_digits (take c.before_point-point.result c.args.m.now)) (all_digits c.bytes_behind-part.result.now) c.before_point-point.ensures refl (c.bytes_behind-part.ensures) refl refl (omega arith)

pub returns-then-not-few : goal.returns-then-not-few
returns-then-not-few c = no_short_mantissa c.args.m.now (take c.before_point-point.result c.args.m.now) c.bytes_behind-part.result.now c.before_point-point.result c.all_digits.result c.all_digits-2.result c.before_point-point.ensures refl (c.bytes_behind-part.ensures) c.all_digits.ensures c.all_digits-2.ensures (omega arith) c.if-not-few.true

pub value_from-requires : goal.value_from-requires
value_from-requires c = (short_few c.args.m.now (take c.before_point-point.result c.args.m.now) c.bytes_behind-part.result.now c.before_point-point.result c.all_digits.result c.all_digits-2.result c.before_point-point.ensures refl (c.bytes_behind-part.ensures) c.all_digits.ensures c.all_digits-2.ensures (omega arith) c.if-not-few.false).whole

pub value_from-requires-2 : goal.value_from-requires-2
value_from-requires-2 c =
    let fits = short_few c.args.m.now (take c.before_point-point.result c.args.m.now) c.bytes_behind-part.result.now c.before_point-point.result c.all_digits.result c.all_digits-2.result c.before_point-point.ensures refl (c.bytes_behind-part.ensures) c.all_digits.ensures c.all_digits-2.ensures (omega arith) c.if-not-few.false in
    (fits.part.0, rw c.value_from.ensures fits.part.1)

pub returns : goal.returns
returns c = short_mantissa c.args.m.now (take c.before_point-point.result c.args.m.now) c.bytes_behind-part.result.now c.before_point-point.result c.all_digits.result c.all_digits-2.result c.before_point-point.ensures refl (c.bytes_behind-part.ensures) c.all_digits.ensures c.all_digits-2.ensures (omega arith) c.if-not-few.false _ (c.value_from-2.ensures ∙ ap (λ (n : ℕ). value_from n c.bytes_behind-part.result.now) c.value_from.ensures)
