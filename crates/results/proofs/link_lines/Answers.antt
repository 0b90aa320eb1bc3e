-- `results::link_lines` meets its contract. The invariant: the first i lines stand in the buffer. Assumes nothing.
use native.Mathlib.Omega.{arith}
use Prim.Native.Nat.{◌+◌, ◌*◌, ◌-◌, ◌≤◌}
use mathlib.Core.Path.{◌≡◌, refl}
use lib.ListN.{length}
use Rattle.words.specs.Buffer.{Put}
use Rattle.results.specs.Lines.{link_line, link_lines}
use Rattle.words.proofs.Laws.{then}
use Rattle.results.proofs.LineLaws.{no_links, link_turn}
use Rattle.results.proofs.link_lines.Goals as goal

pub loop-i-init : goal.loop-i-init
loop-i-init c = (omega arith, refl, omega arith, no_links _ _ _ _)

pub overflow_cast-statuses : goal.overflow_cast-statuses
overflow_cast-statuses c = omega (arith, c.shared_slice_known-in-loop-i-2-1.given c.loop-i.i)

pub loop-i-preserved : goal.loop-i-preserved
unfolding link_line
loop-i-preserved c = (omega arith, omega arith, omega arith, link_turn _ _ _ c.loop-i.invariant.3 (then (then (then (then c.put_byte-p.ensures.put c.put_number-p.ensures.put) c.put_float-p.ensures.put) c.put_number-p-in-loop-i.ensures.put) c.put_byte-p-in-loop-i.ensures.put))

pub returns-clause-text : goal.returns-clause-text
returns-clause-text c =
    let e : c.loop-i.i ≡ c.args.count = omega arith in
    rw (← e) c.loop-i.invariant.3.bytes

pub returns-clause-end : goal.returns-clause-end
returns-clause-end c =
    let e : c.loop-i.i ≡ c.args.count = omega arith in
    rw (← e) c.loop-i.invariant.3.next
