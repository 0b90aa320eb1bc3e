-- `sheet_bytes::put_pressures` meets its contract: one field behind the other. Assumes nothing.
use native.Mathlib.Omega.{arith}
use borrow.Author.Rules.{rules}
use Rattle.words.proofs.Laws.{then}
use Rattle.spelled.specs.Texts.{bytes_of}
use Rattle.sheet_bytes.specs.Bytes.{pressures_bytes}
use Rattle.sheet_bytes.proofs.put_pressures.Goals as goal

pub returns-clause-put : goal.returns-clause-put
unfolding pressures_bytes bytes_of
returns-clause-put c = then (then c.put_text-q.ensures.put c.put_float-q.ensures.put) c.put_float.ensures.put
