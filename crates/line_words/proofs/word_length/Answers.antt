-- `line_words::word_length` meets its contract. Assumes nothing.
use borrow.Author.Rules.{rules}
use borrow.Author.Tests.{tests}
use Rattle.std.proofs.lemmas.Iterator.{YieldsList-from_slice}
use Rattle.std.proofs.lemmas.Iterator.Search.{position_from_yields_List}
use Rattle.lines.proofs.Stretches.{stretch_from}
use Rattle.line_words.specs.Words.{ends_word}
use Rattle.line_words.proofs.word_length.Goals as goal

pub returns : goal.returns
unfolding ends_word
returns c = stretch_from ends_word _ (position_from_yields_List ends_word _ _ _ c.position.ensures.ran (YieldsList-from_slice c.args.s.now cc) (λ x b q k. search (rules, tests))) c.unwrap_or.ensures
