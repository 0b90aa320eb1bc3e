-- `results::balance_line` meets its contract: one word behind the other. Assumes nothing.
use native.Mathlib.Omega.{arith}
use Rattle.results.specs.Lines.{balance_line}
use Rattle.words.proofs.Laws.{then}
use Rattle.results.proofs.balance_line.Goals as goal

pub returns-clause-text : goal.returns-clause-text
unfolding balance_line
returns-clause-text c =
    let all = then (then (then (then c.put_byte-p.ensures.put c.put_float-p.ensures.put) c.put_float-p-2.ensures.put) c.put_float-p-3.ensures.put) c.put_byte.ensures.put in
    all.bytes

pub returns-clause-end : goal.returns-clause-end
unfolding balance_line
returns-clause-end c =
    let all = then (then (then (then c.put_byte-p.ensures.put c.put_float-p.ensures.put) c.put_float-p-2.ensures.put) c.put_float-p-3.ensures.put) c.put_byte.ensures.put in
    all.next
