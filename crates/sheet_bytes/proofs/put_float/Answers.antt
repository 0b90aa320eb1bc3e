-- `sheet_bytes::put_float` meets its contract. Assumes nothing.
use native.Mathlib.Omega.{arith}
use borrow.Author.Rules.{rules}
use Rattle.sheet_bytes.proofs.Laws.{as_float}
use Rattle.sheet_bytes.proofs.put_float.Goals as goal

pub returns-clause-put : goal.returns-clause-put
returns-clause-put c = as_float _ _ c.pattern.ensures c.put_number.ensures.put
