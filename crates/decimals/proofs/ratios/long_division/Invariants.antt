-- `decimals::ratios::long_division` meets its contract. Assumes nothing.
use Prim.Native.Nat.{◌^◌, ◌<◌}
use Rattle.decimals.specs.Wide.{value}
use Rattle.decimals.proofs.Quotients.{Digits}
use Rattle.decimals.proofs.ratios.long_division.Given as goal

abbrev pub invariant-loop : goal.invariant-loop
invariant-loop l = (l.rest.low < 2 ^ 60) × Digits (value l.initial.rest) (value l.m) (value l.rest) l.q l.counter
