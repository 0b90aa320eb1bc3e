-- `word_places::LineWords::word` meets its contract. Assumes nothing.
use native.Mathlib.Omega.{arith}
use Rattle.word_places.proofs.Filling.{in_order, inside, reads}
use Rattle.word_places.proofs.LineWords.word.Goals as goal

pub slice_bounds-result-count : goal.slice_bounds-result-count
slice_bounds-result-count c = in_order c.self.invariant _ c.requires

pub slice_bounds-result-start : goal.slice_bounds-result-start
slice_bounds-result-start c = omega (arith, in_order c.self.invariant _ c.requires)

pub slice_bounds-result-end : goal.slice_bounds-result-end
slice_bounds-result-end c = omega (arith, in_order c.self.invariant _ c.requires, inside c.self.invariant _ c.requires)

pub returns : goal.returns
returns c = rw (← c.self.view_is) (reads c.self.invariant _ c.requires)
