-- `text::answer_line` meets its contract: one word behind the other. Assumes nothing.
use native.Mathlib.Omega.{arith}
use Rattle.text.specs.Lines.{answer_line}
use Rattle.words.proofs.Laws.{then}
use Rattle.text.proofs.answer_line.Goals as goal

pub returns-clause-text : goal.returns-clause-text
unfolding answer_line
returns-clause-text c =
    let all = then (then (then (then (then (then c.put_byte-p.ensures.put c.put_number-p.ensures.put) c.put_number-p-2.ensures.put) c.put_number-p-3.ensures.put) c.put_number-p-4.ensures.put) c.put_number-p-5.ensures.put) c.put_byte.ensures.put in
    all.bytes

pub returns-clause-end : goal.returns-clause-end
unfolding answer_line
returns-clause-end c =
    let all = then (then (then (then (then (then c.put_byte-p.ensures.put c.put_number-p.ensures.put) c.put_number-p-2.ensures.put) c.put_number-p-3.ensures.put) c.put_number-p-4.ensures.put) c.put_number-p-5.ensures.put) c.put_byte.ensures.put in
    all.next
