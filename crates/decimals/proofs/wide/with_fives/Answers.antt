-- `decimals::wide::with_fives` meets its contract. Assumes nothing.
use mathlib.Core.Path.{◌≡◌, ap, ◌∙◌}
use Prim.Native.Nat.{ℕ, ◌*◌, ◌^◌}
use native.Mathlib.Omega.{arith}
use Rattle.decimals.specs.Wide.{value}
use Rattle.decimals.proofs.Wides.{fives_below, five_more}
use Rattle.decimals.proofs.wide.with_fives.Goals as goal

pub times-w-requires : goal.times-w-requires
times-w-requires c = omega (arith, c.loop.invariant, fives_below (value c.args.a) c.loop.counter c.args.k c.loop.invariant.0 c.requires.1)

pub loop-preserved : goal.loop-preserved
loop-preserved c = (omega arith, omega arith, five_more _ _ _ _ c.loop.invariant.2 c.times-w.ensures.1)

pub returns : goal.returns
returns c =
    let e : c.loop.counter ≡ c.args.k = omega arith in
    (omega arith, c.loop.invariant.2 ∙ ap (λ (j : ℕ). value c.args.a * 5 ^ j) e)
