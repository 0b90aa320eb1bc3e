-- `valves::psv` meets its contract. Assumes nothing.
use Rattle.valves.specs.Valve.{psv_of}
use Rattle.coefficient.specs.Link.{no_addition}
use borrow.Author.Rules.{rules}
use Rattle.valves.proofs.psv.Goals as goal

pub returns : goal.returns
unfolding psv_of no_addition
returns c = simp (c.held.ensures, c.right_side.ensures)
