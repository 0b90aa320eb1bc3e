-- `standard::take_steps` has taken as many steps as it counts, and may take another. Assumes nothing.
use Rattle.std.proofs.Common.{◌≤◌}
use Rattle.standard.specs.Steps.{More}
use Rattle.standard.proofs.take_steps.Given as goal

abbrev pub invariant-loop : goal.invariant-loop
invariant-loop g l = goal.F-IsAlwaysCallable g l.step × (l.counter ≤ l.most) × More (goal.F-step g) l.counter l.initial.step l.step
