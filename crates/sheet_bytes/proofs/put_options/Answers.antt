-- `sheet_bytes::put_options` meets its contract: one field behind the other. Assumes nothing.
use native.Mathlib.Omega.{arith}
use borrow.Author.Rules.{rules}
use Rattle.words.proofs.Laws.{then}
use Rattle.spelled.specs.Texts.{bytes_of}
use Rattle.sheet_bytes.specs.Bytes.{options_bytes}
use Rattle.sheet_bytes.proofs.put_options.Goals as goal

pub returns-clause-put : goal.returns-clause-put
unfolding options_bytes bytes_of
returns-clause-put c = then (then (then (then (then c.put_text-p.ensures.put c.put_float-p.ensures.put) c.put_float-p-2.ensures.put) c.put_float-p-3.ensures.put) c.put_number-p.ensures.put) c.put_number.ensures.put
