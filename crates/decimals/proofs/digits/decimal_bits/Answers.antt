-- `decimals::digits::decimal_bits` meets its contract. Assumes nothing.
use Prim.Native.Nat.{ℕ, ◌*◌, ◌^◌, ◌≤◌, ◌<◌}
use native.Mathlib.Omega.{arith}
use lib.Dec.{lit<}
use Rattle.decimals.specs.Wide.{value}
use Rattle.decimals.proofs.Cases.{small_power, small_product, above, zero_is, divided_is, multiplied_is}
use Rattle.decimals.proofs.digits.decimal_bits.Goals as goal

abbrev digits : ℕ → ℕ
digits d = value (record { high = 0; low = d })

product : (d k : ℕ) → 0 < d → d < 10 ^ 17 → k ≤ 20 → (0 < digits d * 5 ^ k) × (digits d * 5 ^ k < 2 ^ 110)
product d k p l h = small_product (digits d) k (omega arith) (omega arith) h

pub returns-then-d-eq0 : goal.returns-then-d-eq0
returns-then-d-eq0 c = zero_is c.args.d c.args.size c.args.negative c.if-d-eq0.true

pub with_fives-requires : goal.with_fives-requires
with_fives-requires c = (lit< tt, (small_power c.args.size c.requires.places).1)

pub ratio-requires : goal.ratio-requires
ratio-requires c = omega (arith, above c.args.d c.if-d-eq0.false, c.requires.digits, c.requires.places, c.with_fives.ensures, small_power c.args.size c.requires.places)

pub returns-then-negative : goal.returns-then-negative
returns-then-negative c =
    divided_is c.args.d c.args.size (digits c.args.d) (value c.with_fives.result) c.ratio.result c.args.negative c.if-negative.true c.requires.places (omega arith)
    c.with_fives.ensures.1 c.ratio.ensures

pub with_fives-requires-2 : goal.with_fives-requires-2
with_fives-requires-2 c = (omega arith, (product c.args.d c.args.size (above c.args.d c.if-d-eq0.false) c.requires.digits (c.requires.whole c.if-negative.false)).1)

pub ratio-requires-2 : goal.ratio-requires-2
ratio-requires-2 c = omega (arith, c.requires.places, c.with_fives-2.ensures, product c.args.d c.args.size (above c.args.d c.if-d-eq0.false) c.requires.digits (c.requires.whole c.if-negative.false))

pub returns : goal.returns
returns c =
    multiplied_is c.args.d c.args.size (digits c.args.d) (value c.with_fives-2.result) c.ratio-2.result c.args.negative c.if-negative.false (omega arith)
    c.with_fives-2.ensures.1 c.ratio-2.ensures
