-- `sheet::reading::check` meets its contract. Assumes nothing.
use mathlib.Core.Path.{sym, ap, ◌∙◌}
use borrow.Author.Rules.{rules}
use Rattle.sheet.proofs.Readings.{no_field, ends_in, checked_field, checked_ends, checked_good}
use Rattle.sheet.proofs.reading.check.Goals as goal
use Rattle.std.specs.Prelude.{Ok}

pub returns-in-Some : goal.returns-in-Some
returns-in-Some c = sym (checked_field c.args.b c.args.l c.args.sheet.now _ (sym c.bad_field-field.ensures ∙ c.in-Some.is))

pub bad_ends-ends-requires-clause-laid : goal.bad_ends-ends-requires-clause-laid
bad_ends-ends-requires-clause-laid c = c.requires

pub bad_ends-ends-requires-clause-ends_in : goal.bad_ends-ends-requires-clause-ends_in
bad_ends-ends-requires-clause-ends_in c = ends_in c.args.b c.args.l c.args.sheet.now (no_field c.args.b c.args.l c.args.sheet.now (sym c.bad_field-field.ensures ∙ c.in_default.is)).3

pub returns-in-Some-ends : goal.returns-in-Some-ends
returns-in-Some-ends c = sym (checked_ends c.args.b c.args.l c.args.sheet.now _ (sym c.bad_field-field.ensures ∙ c.in_default.is) (sym c.bad_ends-ends.ensures ∙ c.in-Some-ends.is))

pub with_unknowns-requires : goal.with_unknowns-requires
with_unknowns-requires c = c.requires

pub returns : goal.returns
returns c = ap Ok c.with_unknowns.ensures ∙ sym (checked_good c.args.b c.args.l c.args.sheet.now (sym c.bad_field-field.ensures ∙ c.in_default.is) (sym c.bad_ends-ends.ensures ∙ c.in_default-ends.is))
