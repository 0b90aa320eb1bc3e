-- `line_fields::number_at` meets its contract: what a word spells is in the range of decimals. Assumes nothing.
use mathlib.Core.Path.{sym, ◌∙◌, subst}
use Rattle.std.specs.Prelude.{Option, IfSome}
use Rattle.decimal_words.specs.declared.written.Written.{Written}
use Rattle.decimal_words.specs.Numbers.{Ranged}
use Rattle.decimal_words.proofs.Parts.{in_range}
use Rattle.line_fields.proofs.number_at.Goals as goal

pub worth-requires : goal.worth-requires
worth-requires c = subst (λ (o : Option Written). IfSome {T = Written} o Ranged) (sym c.spelled_number.ensures ∙ c.in-Some.is) (in_range c.word.result.now)
