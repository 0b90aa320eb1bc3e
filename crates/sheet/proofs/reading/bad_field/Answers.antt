-- `sheet::reading::bad_field` meets its contract. Assumes nothing.
use mathlib.Core.Path.{sym, ◌∙◌}
use borrow.Author.Rules.{rules}
use borrow.Author.Tests.{not-true, not-false}
use Rattle.layout.proofs.Laws.{options_within}
use Rattle.sheet.proofs.Readings.{field_options, field-pressures, field-node, field-link}
use mathlib.Core.Path.{ap}
use mathlib.Core.Bool.{not}
use Rattle.sheet.proofs.reading.bad_field.Goals as goal

pub options_good-options-requires : goal.options_good-options-requires
options_good-options-requires c = options_within _ _ c.requires

pub returns-then-not-options : goal.returns-then-not-options
returns-then-not-options c = sym (field_options c.args.b c.args.l c.args.sheet.now (sym c.options_good-options.ensures ∙ not-true _ (ap not c.if-not-options.true)))

pub returns-then-not-pressures : goal.returns-then-not-pressures
returns-then-not-pressures c = sym (field-pressures c.args.b c.args.l c.args.sheet.now (sym c.options_good-options.ensures ∙ not-false _ (ap not c.if-not-options.false)) (sym c.pressures_fine-pressures.ensures ∙ not-true _ (ap not c.if-not-pressures.true)))

pub returns-in_default : goal.returns-in_default
returns-in_default c = c.bad_link.ensures ∙ sym (field-link c.args.b c.args.l c.args.sheet.now (sym c.options_good-options.ensures ∙ not-false _ (ap not c.if-not-options.false)) (sym c.pressures_fine-pressures.ensures ∙ not-false _ (ap not c.if-not-pressures.false)) (sym c.bad_node.ensures ∙ c.in_default.is))

pub returns : goal.returns
returns c = sym (field-node c.args.b c.args.l c.args.sheet.now (sym c.options_good-options.ensures ∙ not-false _ (ap not c.if-not-options.false)) (sym c.pressures_fine-pressures.ensures ∙ not-false _ (ap not c.if-not-pressures.false)) _ (sym c.bad_node.ensures ∙ c.in-Some.is))
