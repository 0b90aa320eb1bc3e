-- `verdict_line::verdict_line` meets its contract: one word behind the other. Assumes nothing.
use native.Mathlib.Omega.{arith}
use Rattle.verdict_line.specs.Line.{verdict_line}
use Rattle.words.proofs.Laws.{then}
use Rattle.verdict_line.proofs.verdict_line.Goals as goal

pub returns-clause-text : goal.returns-clause-text
unfolding verdict_line
returns-clause-text c =
    let all = then (then (then c.put_byte-p.ensures.put c.put_number-p.ensures.put) c.put_number-p-2.ensures.put) c.put_byte.ensures.put in
    all.bytes

pub returns-clause-end : goal.returns-clause-end
unfolding verdict_line
returns-clause-end c =
    let all = then (then (then c.put_byte-p.ensures.put c.put_number-p.ensures.put) c.put_number-p-2.ensures.put) c.put_byte.ensures.put in
    all.next
