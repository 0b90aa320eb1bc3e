-- `decimal_words::digits::before_mark` meets its contract. Assumes nothing.
use borrow.Author.Rules.{rules}
use borrow.Author.Tests.{tests}
use Rattle.std.proofs.lemmas.Iterator.{YieldsList-from_slice}
use Rattle.std.proofs.lemmas.Iterator.Search.{position_from_yields_List}
use Rattle.lines.proofs.Stretches.{stretch_from}
use Rattle.decimal_words.specs.Numbers.{is_mark}
use Rattle.decimal_words.proofs.digits.before_mark.Goals as goal

pub returns : goal.returns
unfolding is_mark
returns c = stretch_from is_mark _ (position_from_yields_List is_mark _ _ _ c.position.ensures.ran (YieldsList-from_slice c.args.s.now cc) (λ x b q k. search (rules, tests))) c.unwrap_or.ensures
