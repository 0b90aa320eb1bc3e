-- `excess::excess_flows` meets its contract. Assumes nothing.
use Rattle.excess.proofs.Turns.{excess_with, excess_without}
use borrow.Author.Rules.{rules}
use Rattle.excess.proofs.excess_flows.Goals as goal

pub returns-then-any_regulator : goal.returns-then-any_regulator
returns-then-any_regulator c = excess_with _ _ _ _ _ _ c.any_regulator.ensures _ c.if-any_regulator.true c.imbalance.ensures

pub returns-else-any_regulator : goal.returns-else-any_regulator
returns-else-any_regulator c = excess_without _ _ _ _ _ _ c.any_regulator.ensures _ c.if-any_regulator.false c.clear.ensures
