-- `excess::start_at_demands` meets its contract. Assumes nothing.
use lib.Ieee.{nan, binary64, sub}
use Rattle.excess.specs.Excess.{minus_zero, less_demands}
use Rattle.excess.proofs.Turns.{demands_none, demands_next}
use native.Mathlib.Omega.{arith}
use Prim.Native.Nat.{ℕ, ◌-◌, ◌≤◌}
use mathlib.Core.Path.{◌≡◌, refl, ap, ◌∙◌}
use lib.ListN.{length, get_or, length-set}
use Rattle.excess.proofs.start_at_demands.Goals as goal

pub loop-i-init : goal.loop-i-init
loop-i-init c = (omega arith, demands_none _ _, refl)

pub loop-i-preserved : goal.loop-i-preserved
loop-i-preserved c = (omega arith, demands_next _ _ _ _ c.loop-i.invariant.1, length-set c.loop-i.excess c.loop-i.i (sub binary64 minus_zero (get_or c.args.demands.now c.loop-i.i nan)) ∙ c.loop-i.invariant.2)

pub shape_of-excess : goal.shape_of-excess
shape_of-excess c = c.loop-i.invariant.2

pub returns : goal.returns
returns c = let e : c.loop-i.i ≡ c.args.nodes = omega arith in c.loop-i.invariant.1 ∙ ap (λ (k : ℕ). less_demands c.args.demands.now k c.args.excess.now) e
