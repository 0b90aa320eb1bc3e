-- `sheet_bytes::put_five` meets its contract: one behind the other. Assumes nothing.
use native.Mathlib.Omega.{arith}
use borrow.Author.Rules.{rules}
use Rattle.words.proofs.Laws.{then}
use Rattle.sheet_bytes.proofs.put_five.Goals as goal

pub returns-clause-put : goal.returns-clause-put
returns-clause-put c = then (then (then (then c.put_float-p.ensures.put c.put_float-p-2.ensures.put) c.put_float-p-3.ensures.put) c.put_float-p-4.ensures.put) c.put_float.ensures.put
