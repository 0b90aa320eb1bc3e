-- `sheet::reading::check_counts` meets its contract. Assumes nothing.
use mathlib.Core.Path.{sym, ◌∙◌}
use native.Mathlib.Omega.{arith}
use borrow.Author.Rules.{rules}
use Rattle.sheet.proofs.Readings.{no_nodes, many_nodes, many_links, right_counts}
use Rattle.sheet.proofs.reading.check_counts.Goals as goal

pub returns-then-l-lt1 : goal.returns-then-l-lt1
returns-then-l-lt1 c = sym (no_nodes c.args.b c.args.l c.args.sheet.now (omega arith))

pub returns-then-b-l : goal.returns-then-b-l
returns-then-b-l c = sym (many_nodes c.args.b c.args.l c.args.sheet.now (omega arith) (omega arith))

pub returns-then-b-l-2 : goal.returns-then-b-l-2
returns-then-b-l-2 c = sym (many_links c.args.b c.args.l c.args.sheet.now (omega arith) (omega arith) (omega arith))

pub returns : goal.returns
returns c = c.check.ensures ∙ sym (right_counts c.args.b c.args.l c.args.sheet.now (omega arith) (omega arith) (omega arith))
