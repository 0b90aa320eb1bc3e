-- `sheet_bytes::put_node` meets its contract: one field behind the other. Assumes nothing.
use native.Mathlib.Omega.{arith}
use borrow.Author.Rules.{rules}
use Rattle.words.proofs.Laws.{then}
use Rattle.spelled.specs.Texts.{bytes_of}
use Rattle.sheet_bytes.specs.Bytes.{node_bytes}
use Rattle.sheet_bytes.proofs.Laws.{as_byte, one_by_one}
use Rattle.sheet_bytes.proofs.put_node.Goals as goal

pub returns-clause-put : goal.returns-clause-put
unfolding node_bytes bytes_of
returns-clause-put c =
    let kind = then c.put_text-p.ensures.put (as_byte c.from.ensures c.put_byte-p.ensures.put) in
    let disabled = then kind (as_byte c.flag_byte.ensures c.put_byte-p-2.ensures.put) in
    let numbers = one_by_one _ _ _ _ _ disabled c.put_five-p.ensures.put in
    then numbers (as_byte c.flag_byte-2.ensures c.put_byte.ensures.put)
