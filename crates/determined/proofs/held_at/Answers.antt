-- `determined::held_at` meets its contract. Assumes nothing.
use borrow.Author.Rules.{rules}
use Rattle.determined.proofs.Laws.{held_out, held_in}
use mathlib.Core.Path.{ap}
use mathlib.Core.Bool.{not}
use Rattle.determined.proofs.held_at.Goals as goal

pub returns-then-not-link_serves : goal.returns-then-not-link_serves
returns-then-not-link_serves c = held_out _ _ _ _ _ c.link_serves.ensures (ap not c.if-not-link_serves.true)

pub returns : goal.returns
returns c = held_in _ _ _ _ _ c.link_serves.ensures (ap not c.if-not-link_serves.false) _ _ _ c.link-k.ensures c.from.ensures c.holds.ensures
