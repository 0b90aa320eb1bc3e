-- `decimals::wide::digit_of` meets its contract. Assumes nothing.
use mathlib.Core.Path.{refl}
use Prim.Native.Nat.{◌+◌, ◌-◌, ◌*◌, ◌/◌, ◌%◌, ◌^◌}
use native.Mathlib.Nat.{mod-lt}
use lib.Dec.{lit<}
use Rattle.decimals.specs.Wide.{value}
use Rattle.decimals.proofs.Wides.{lessened, one_taken}
use Rattle.decimals.proofs.wide.digit_of.Goals as goal

pub returns : goal.returns
returns c =
    let low = c.args.t.low + 2 ^ 60 - c.args.m.low in
    let high = c.args.t.high + 2 ^ 60 + low / 2 ^ 60 - c.args.m.high - 1 in
    let e = lessened c.args.t.high c.args.t.low c.args.m.high c.args.m.low low high c.requires.2 c.requires.3 c.requires.0 c.requires.1 refl refl c.if-high-lt1152921504606846976.false in
    let p = one_taken (value c.args.m) (high % 2 ^ 60 * 2 ^ 60 + low % 2 ^ 60) (value c.args.t) e c.requires.4 in
    (mod-lt low {m = 2 ^ 60} (lit< tt), lit< tt, p.0, p.1)
