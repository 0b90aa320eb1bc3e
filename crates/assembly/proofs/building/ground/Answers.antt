-- `assembly::building::ground` meets its contract. Assumes nothing.
use Rattle.assembly.proofs.Built.{ground_marked, ground_not}
use Rattle.assembly.proofs.building.ground.Goals as goal

pub returns-then-grounded : goal.returns-then-grounded
returns-then-grounded c = ground_marked _ _ _ _ c.if-grounded.true c.add_to_diagonal.ensures

pub returns-else-grounded : goal.returns-else-grounded
returns-else-grounded c = ground_not _ _ _ c.if-grounded.false
