-- `sheet::reading::read` meets its contract. Assumes nothing.
use mathlib.Core.Path.{ap, ◌∙◌}
use borrow.Author.Rules.{rules}
use Rattle.fields.specs.declared.fields.Bounds.{Bounds}
use Rattle.sheet.specs.Read.{read_with, read_of}
use Rattle.sheet.proofs.reading.read.Goals as goal

pub returns : goal.returns
unfolding read_of
returns c = c.read_within.ensures ∙ ap (λ (b : Bounds). read_with b c.args.sheet.now) c.base_bounds.ensures
