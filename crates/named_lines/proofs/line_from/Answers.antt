-- `named_lines::line_from` meets its contract. Assumes nothing.
use Rattle.std.proofs.Common.{arith, ap}
use Rattle.lines.specs.Lines.{passage}
use Rattle.lines.specs.declared.Line.{Line}
use Rattle.named_lines.proofs.Laws.{line_inside}
use Rattle.named_lines.proofs.line_from.Goals as goal

pub slice_bounds-result-count : goal.slice_bounds-result-count
slice_bounds-result-count c = (line_inside _ _ c.requires _ c.line_at.ensures).0

pub slice_bounds-result-start : goal.slice_bounds-result-start
slice_bounds-result-start c = (line_inside _ _ c.requires _ c.line_at.ensures).0

pub slice_bounds-result-end : goal.slice_bounds-result-end
slice_bounds-result-end c = omega (arith, line_inside _ _ c.requires _ c.line_at.ensures)

pub returns : goal.returns
returns c = ap (λ (l : Line). passage c.args.at l.end c.args.text.now) c.line_at.ensures
