-- `sheet_line::sheet_line` meets its contract: one word behind the other. Assumes nothing.
use native.Mathlib.Omega.{arith}
use Rattle.sheet_line.specs.Line.{sheet_line}
use Rattle.words.proofs.Laws.{then}
use Rattle.sheet_line.proofs.sheet_line.Goals as goal

pub returns-clause-text : goal.returns-clause-text
unfolding sheet_line
returns-clause-text c =
    let all = then (then (then (then c.put_byte-p.ensures.put c.put_number-p.ensures.put) c.put_number-p-2.ensures.put) c.put_number-p-3.ensures.put) c.put_byte.ensures.put in
    all.bytes

pub returns-clause-end : goal.returns-clause-end
unfolding sheet_line
returns-clause-end c =
    let all = then (then (then (then c.put_byte-p.ensures.put c.put_number-p.ensures.put) c.put_number-p-2.ensures.put) c.put_number-p-3.ensures.put) c.put_byte.ensures.put in
    all.next
