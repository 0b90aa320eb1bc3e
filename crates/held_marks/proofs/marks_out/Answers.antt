-- `held_marks::marks_out` meets its contract. Assumes nothing.
use Rattle.std.proofs.Common.{rules, false}
use Rattle.held.specs.Held.{mark_byte, marks_out}
use Rattle.held_marks.proofs.Laws.{mapped}
use Rattle.held_marks.proofs.marks_out.Goals as goal

pub returns : goal.returns
unfolding marks_out
returns c =
    mapped mark_byte c.args.z.now _ false 64 c.told-z c.map.ensures.items.long
    (λ i h. let called = c.map.ensures.items.at i false (mark_byte false) h in search rules)
