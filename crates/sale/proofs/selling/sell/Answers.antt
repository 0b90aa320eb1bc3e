-- `sale::selling::sell` meets its contract, for any sheet, any limits and any buffers. Assumes nothing.
use mathlib.Core.Path.{sym, ◌∙◌}
use borrow.Author.Rules.{rules}
use Rattle.sale.proofs.Laws.{sale_refused}
use Rattle.sale.proofs.selling.sell.Goals as goal

pub sell_read-requires : goal.sell_read-requires
sell_read-requires c = record { sheet_value = sym c.read.ensures ∙ c.in-Ok.is }

pub returns-in-Err : goal.returns-in-Err
returns-in-Err c = sale_refused _ _ _ _ _ _ _ c.read.ensures c.in-Err.is c.refuse-answer.ensures c.unsold-verdict.ensures
