-- `balance::balanced` meets its contract. Assumes nothing.
use Rattle.balance.proofs.Turns.{balance_of_lem}
use borrow.Author.Rules.{rules}
use Rattle.balance.proofs.balanced.Goals as goal

pub returns : goal.returns
returns c = balance_of_lem _ _ _ _ _ _ c.total_demand-demand.ensures c.total_supply-supply.ensures
