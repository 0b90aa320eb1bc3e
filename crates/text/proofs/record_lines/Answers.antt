-- `text::record_lines` meets its contract. The invariant: the first i lines stand in the buffer. Assumes nothing.
use native.Mathlib.Omega.{arith}
use Prim.Native.Nat.{◌+◌, ◌*◌, ◌-◌, ◌≤◌}
use mathlib.Core.Path.{◌≡◌, refl}
use lib.ListN.{length}
use Rattle.words.specs.Buffer.{Put}
use Rattle.text.specs.Lines.{record_line, record_lines}
use Rattle.words.proofs.Laws.{then}
use Rattle.text.proofs.LineLaws.{no_records, record_turn}
use Rattle.text.proofs.record_lines.Goals as goal

pub loop-i-init : goal.loop-i-init
loop-i-init c = (omega arith, refl, omega arith, no_records _ _ _)

pub overflow_step-i : goal.overflow_step-i
overflow_step-i c = omega (arith, c.loop-i-test.true, c.well_formed)

pub loop-i-preserved : goal.loop-i-preserved
unfolding record_line
loop-i-preserved c = (omega arith, omega arith, omega arith, record_turn _ _ _ c.two_bytes.ensures.0 c.loop-i.invariant.3 (then (then (then (then (then c.put_byte-p.ensures.put c.put_byte-p-in-loop-i.ensures.put) c.put_byte-p-in-loop-i-2.ensures.put) c.put_byte-p-in-loop-i-3.ensures.put) c.put_number-p.ensures.put) c.put_byte-p-in-loop-i-4.ensures.put))

pub returns-clause-text : goal.returns-clause-text
returns-clause-text c =
    let e : c.loop-i.i ≡ c.args.count = omega arith in
    rw (← e) c.loop-i.invariant.3.bytes

pub returns-clause-end : goal.returns-clause-end
returns-clause-end c =
    let e : c.loop-i.i ≡ c.args.count = omega arith in
    rw (← e) c.loop-i.invariant.3.next
