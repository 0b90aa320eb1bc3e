-- `listing_text::tell` meets its contract: the head, and results for number 0. Assumes nothing.
use native.Mathlib.Omega.{arith}
use mathlib.Core.Path.{sym, ◌∙◌}
use borrow.Author.Rules.{rules}
use Rattle.solver.proofs.Laws.{network_of}
use Rattle.listing_text.proofs.Told.{told_failed, told_unread, told_all}
use Rattle.listing_text.proofs.tell.Goals as goal

pub returns-then-a-ne0-clause-put : goal.returns-then-a-ne0-clause-put
returns-then-a-ne0-clause-put c = told_failed _ _ _ _ _ _ _ c.head_lines-at.ensures.put c.if-a-ne0.true

pub returns-then-a-ne0-clause-upper_bound : goal.returns-then-a-ne0-clause-upper_bound
returns-then-a-ne0-clause-upper_bound c = omega (arith, c.head_lines-at.ensures.upper_bound)

pub result_lines-requires-clause-nodes_bound : goal.result_lines-requires-clause-nodes_bound
result_lines-requires-clause-nodes_bound c =
    let l = network_of _ _ (sym c.read.ensures ∙ c.in-Ok.is) in
    (omega (arith, l.nodes), omega (arith, l.links), omega arith, omega arith)

pub returns-in-Ok-clause-put : goal.returns-in-Ok-clause-put
returns-in-Ok-clause-put c = told_all _ _ _ _ _ _ _ c.head_lines-at.ensures.put _ (sym c.read.ensures ∙ c.in-Ok.is) c.if-a-ne0.false c.result_lines.ensures.put

pub returns-in-Ok-clause-upper_bound : goal.returns-in-Ok-clause-upper_bound
returns-in-Ok-clause-upper_bound c = c.result_lines.ensures.upper_bound

pub returns-in-Err-clause-put : goal.returns-in-Err-clause-put
returns-in-Err-clause-put c = told_unread _ _ _ _ _ _ _ c.head_lines-at.ensures.put _ (sym c.read.ensures ∙ c.in-Err.is)

pub returns-in-Err-clause-upper_bound : goal.returns-in-Err-clause-upper_bound
returns-in-Err-clause-upper_bound c = omega (arith, c.head_lines-at.ensures.upper_bound)
