-- `valves::minor_loss` meets its contract. Assumes nothing.
use Rattle.valves.specs.Valve.{minor_loss}
use borrow.Author.Rules.{rules}
use Rattle.valves.proofs.minor_loss.Goals as goal

pub returns : goal.returns
unfolding minor_loss
returns c = simp c.whole_power.ensures
