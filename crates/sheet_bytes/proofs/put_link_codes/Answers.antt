-- `sheet_bytes::put_link_codes` meets its contract: one field behind the other. Assumes nothing.
use native.Mathlib.Omega.{arith}
use borrow.Author.Rules.{rules}
use Rattle.words.proofs.Laws.{then}
use Rattle.spelled.specs.Texts.{bytes_of}
use Rattle.sheet_bytes.proofs.Laws.{as_byte}
use Rattle.sheet_bytes.proofs.put_link_codes.Goals as goal

pub returns-clause-put : goal.returns-clause-put
unfolding bytes_of
returns-clause-put c =
    let kind = then c.put_text-p.ensures.put (as_byte c.from.ensures c.put_byte-p.ensures.put) in
    let check = then kind (as_byte c.flag_byte.ensures c.put_byte-p-2.ensures.put) in
    then check (as_byte c.from-2.ensures c.put_byte.ensures.put)
