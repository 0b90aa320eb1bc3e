-- `valves::pcv_minor_loss` meets its contract. Assumes nothing.
use Rattle.valves.specs.Valve.{pcv_minor_loss}
use borrow.Author.Rules.{rules}
use Rattle.valves.proofs.pcv_minor_loss.Goals as goal

pub returns-then-setting : goal.returns-then-setting
unfolding pcv_minor_loss
returns-then-setting c = simp c.if-setting.true

pub returns-then-setting-2 : goal.returns-then-setting-2
unfolding pcv_minor_loss
returns-then-setting-2 c = simp (c.minor_loss-k_open.ensures, c.if-setting.false, c.if-setting-2.true)

pub returns : goal.returns
unfolding pcv_minor_loss
returns c = simp (c.smaller.ensures, c.whole_power.ensures, c.clamp-ratio.ensures, c.minor_loss-k_open.ensures, c.if-setting.false, c.if-setting-2.false)
