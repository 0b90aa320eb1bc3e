-- `reach::sweep` meets its contract: the links before j are followed. Assumes nothing.
use native.Mathlib.Omega.{arith}
use Prim.Native.Nat.{ℕ, ◌-◌, ◌≤◌}
use mathlib.Core.Path.{◌≡◌, refl, ap, ◌∙◌}
use lib.ListN.{length}
use Rattle.reach.specs.Reach.{swept, stirred}
use Rattle.reach.proofs.Laws.{below, sweep_none, sweep_next, follow_long}
use Rattle.reach.proofs.sweep.Goals as goal

pub loop-j-init : goal.loop-j-init
loop-j-init c = (omega arith, sweep_none _ _ _ _, refl)

pub follow-more-requires : goal.follow-more-requires
follow-more-requires c = (below (c.requires.ends_below.start c.loop-j.j c.loop-j-test.true) c.loop-j.invariant.2, below (c.requires.ends_below.end c.loop-j.j c.loop-j-test.true) c.loop-j.invariant.2)

pub loop-j-preserved : goal.loop-j-preserved
loop-j-preserved c = (omega arith, sweep_next _ _ _ _ _ _ _ _ _ c.loop-j.invariant.1.0 c.loop-j.invariant.1.1 c.follow-more.ensures.reached_after c.follow-more.ensures.value, ap length c.follow-more.ensures.reached_after ∙ follow_long _ _ _ _ ∙ c.loop-j.invariant.2)

pub shape_of-reached : goal.shape_of-reached
shape_of-reached c = c.loop-j.invariant.2

pub returns-clause-reached_after : goal.returns-clause-reached_after
returns-clause-reached_after c =
    let e : c.loop-j.j ≡ c.args.links = omega arith in
    c.loop-j.invariant.1.0 ∙ ap (λ (k : ℕ). swept c.args.starts.now c.args.ends.now c.args.joins.now k c.args.reached.now) e

pub returns-clause-value : goal.returns-clause-value
returns-clause-value c =
    let e : c.loop-j.j ≡ c.args.links = omega arith in
    c.loop-j.invariant.1.1 ∙ ap (λ (k : ℕ). stirred c.args.starts.now c.args.ends.now c.args.joins.now k c.args.reached.now) e
