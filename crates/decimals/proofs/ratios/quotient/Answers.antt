-- `decimals::ratios::quotient` meets its contract. Assumes nothing.
use native.Mathlib.Omega.{arith}
use Rattle.decimals.specs.Wide.{value}
use Rattle.decimals.proofs.Wides.{yes, no}
use Rattle.decimals.proofs.Quotients.{down, even, up}
use Rattle.decimals.proofs.ratios.quotient.Goals as goal

pub times-t-requires : goal.times-t-requires
times-t-requires c = omega (arith, c.divide-d.ensures.0, c.divide-d.ensures.1.small, c.requires)

pub returns-then-at_most-2 : goal.returns-then-at_most-2
returns-then-at_most-2 c =
    let m = value c.args.m in
    let t = value c.times-t.result in
    even c.divide-d.ensures.1 t c.times-t.ensures.1 (yes m t c.at_most.ensures c.if-at_most.true) (yes t m c.at_most-then-at_most.ensures c.if-at_most-2.true)

pub returns-then-at_most : goal.returns-then-at_most
returns-then-at_most c =
    let m = value c.args.m in
    let t = value c.times-t.result in
    up c.divide-d.ensures.1 t c.times-t.ensures.1 (no t m c.at_most-then-at_most.ensures c.if-at_most-2.false)

pub returns : goal.returns
returns c =
    let m = value c.args.m in
    let t = value c.times-t.result in
    down c.divide-d.ensures.1 t c.times-t.ensures.1 (no m t c.at_most.ensures c.if-at_most.false)
