-- `sheet_bytes::put_link` meets its contract: one field behind the other. Assumes nothing.
use native.Mathlib.Omega.{arith}
use borrow.Author.Rules.{rules}
use Rattle.words.proofs.Laws.{then}
use Rattle.sheet_bytes.specs.Bytes.{link_bytes}
use Rattle.sheet_bytes.proofs.Laws.{one_by_one}
use Rattle.sheet_bytes.proofs.put_link.Goals as goal

pub returns-clause-put : goal.returns-clause-put
unfolding link_bytes
returns-clause-put c = one_by_one _ _ _ _ _ (then (then c.put_link_codes-p.ensures.put c.put_number-p.ensures.put) c.put_number-p-2.ensures.put) c.put_five.ensures.put
