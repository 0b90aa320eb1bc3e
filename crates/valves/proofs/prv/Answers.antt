-- `valves::prv` meets its contract. Assumes nothing.
use Rattle.valves.specs.Valve.{prv_of}
use Rattle.coefficient.specs.Link.{no_addition}
use borrow.Author.Rules.{rules}
use Rattle.valves.proofs.prv.Goals as goal

pub returns : goal.returns
unfolding prv_of no_addition
returns c = simp (c.held.ensures, c.right_side.ensures)
