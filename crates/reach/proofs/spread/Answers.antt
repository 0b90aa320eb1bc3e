-- `reach::spread` meets its contract: the sweeps that are left give what all give. Assumes nothing.
use native.Mathlib.Omega.{arith}
use native.Mathlib.Nat.{sub-zero}
use Prim.Native.Nat.{◌-◌, ◌≤◌}
use mathlib.Core.Path.{◌≡◌, refl, ◌∙◌}
use borrow.Author.Tests.{not-true}
use lib.ListN.{length}
use Rattle.reach.specs.Reach.{sweeps}
use Rattle.reach.proofs.Laws.{ends_within, sweeps_next, sweeps_stop, sweeps_end, swept_as_long}
use mathlib.Core.Path.{ap}
use mathlib.Core.Bool.{not}
use Rattle.reach.proofs.spread.Goals as goal

pub loop-turn-init : goal.loop-turn-init
loop-turn-init c = (omega arith, rw sub-zero, refl)

pub sweep-requires-clause-links_in_bounds : goal.sweep-requires-clause-links_in_bounds
sweep-requires-clause-links_in_bounds c = (c.requires.links_in_bounds.0, (c.requires.links_in_bounds.1.0, c.requires.links_in_bounds.1.1.0))

pub sweep-requires-clause-ends_below : goal.sweep-requires-clause-ends_below
sweep-requires-clause-ends_below c = ends_within c.requires.ends_below c.requires.links_in_bounds.1.1.1 c.loop-turn.invariant.2

pub shape_of-reached-then-not-sweep : goal.shape_of-reached-then-not-sweep
shape_of-reached-then-not-sweep c = swept_as_long _ _ _ _ _ _ c.sweep.ensures.reached_after c.loop-turn.invariant.2

pub returns-then-not-sweep : goal.returns-then-not-sweep
returns-then-not-sweep c = sweeps_stop _ _ _ _ _ _ _ _ _ c.sweep.ensures.reached_after c.sweep.ensures.value (not-true _ (ap not c.if-not-sweep.true)) ∙ c.loop-turn.invariant.1

pub loop-turn-preserved : goal.loop-turn-preserved
loop-turn-preserved c = (omega arith, sweeps_next _ _ _ _ _ _ _ _ c.loop-turn-test.true c.sweep.ensures.reached_after ∙ c.loop-turn.invariant.1, swept_as_long _ _ _ _ _ _ c.sweep.ensures.reached_after c.loop-turn.invariant.2)

pub shape_of-reached : goal.shape_of-reached
shape_of-reached c = c.loop-turn.invariant.2

pub returns : goal.returns
returns c = sweeps_end _ _ _ _ _ _ _ c.loop-turn-test.false ∙ c.loop-turn.invariant.1
