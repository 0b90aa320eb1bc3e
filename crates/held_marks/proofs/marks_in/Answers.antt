-- `held_marks::marks_in` meets its contract. Assumes nothing.
use Rattle.std.proofs.Common.{rules}
use Rattle.held.specs.Held.{is_mark, marks_in}
use Rattle.held_marks.proofs.Laws.{mapped}
use Rattle.held_marks.proofs.marks_in.Goals as goal

pub returns : goal.returns
unfolding marks_in
returns c =
    mapped is_mark c.args.z.now _ 0 64 c.told-z c.map.ensures.items.long
    (λ i h. let called = c.map.ensures.items.at i 0 (is_mark 0) h in search rules)
