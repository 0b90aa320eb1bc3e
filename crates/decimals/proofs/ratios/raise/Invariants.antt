-- `decimals::ratios::raise` meets its contract. Assumes nothing.
use Prim.Native.Nat.{◌+◌, ◌-◌, ◌^◌, ◌<◌}
use Rattle.decimals.specs.Wide.{value}
use Rattle.decimals.proofs.Wides.{Doubled}
use Rattle.decimals.proofs.ratios.raise.Given as goal

abbrev pub invariant-loop-b : goal.invariant-loop-b
invariant-loop-b l = (l.w.low < 2 ^ 60) × Doubled (value l.initial.w) (value l.b) (value l.w) l.by

abbrev pub decreases-loop-b : goal.decreases-loop-b
decreases-loop-b l = value l.b + 1 - value l.w
