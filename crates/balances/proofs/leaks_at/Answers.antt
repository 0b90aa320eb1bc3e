-- `balances::leaks_at` meets its contract. Assumes nothing.
use borrow.Author.Rules.{rules}
use Rattle.balances.proofs.Leaks.{leaks_is}
use Rattle.balances.proofs.leaks_at.Goals as goal

pub returns : goal.returns
returns c = leaks_is _ _ _ _ _ _ _ c.in_service-serves.ensures c.within-balanced.ensures
