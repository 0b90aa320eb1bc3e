-- `decimals::wide::with_fives` meets its contract. Assumes nothing.
use mathlib.Core.Path.{◌≡◌}
use Prim.Native.Nat.{◌*◌, ◌^◌, ◌≤◌, ◌<◌}
use Rattle.decimals.specs.Wide.{value}
use Rattle.decimals.proofs.wide.with_fives.Given as goal

abbrev pub invariant-loop : goal.invariant-loop
invariant-loop l = (l.counter ≤ l.k) × (l.w.low < 2 ^ 60) × (value l.w ≡ value l.initial.w * 5 ^ l.counter)
