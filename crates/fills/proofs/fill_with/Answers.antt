-- `fills::fill_with` meets its contract. Assumes nothing.
use Rattle.std.proofs.Common.{rules, refl, length-set, ◌∙◌}
use Rattle.fills.proofs.Laws.{none_filled, next_filled, all_filled}
use Rattle.fills.proofs.fill_with.Goals as goal

pub loop-i-init : goal.loop-i-init
loop-i-init g c = (refl, λ f h. none_filled f c.args.n _)

pub loop-i-preserved : goal.loop-i-preserved
loop-i-preserved g c =
    (length-set _ _ _ ∙ c.loop-i.invariant.0, λ f h. next_filled f c.args.n _ _ _ _ (c.loop-i.invariant.1 f h) c.loop-i-test.true (h _ _ c.loop-i-test.true c.value.ensures))

pub returns : goal.returns
returns g c f h = all_filled f c.args.n _ _ _ (c.loop-i.invariant.1 f h) c.loop-i-test.false
