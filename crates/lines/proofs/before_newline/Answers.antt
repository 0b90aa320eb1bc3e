-- `lines::before_newline` meets its contract. Assumes nothing.
use borrow.Author.Rules.{rules}
use borrow.Author.Tests.{tests}
use Rattle.std.proofs.lemmas.Iterator.{YieldsList-from_slice}
use Rattle.std.proofs.lemmas.Iterator.Search.{position_from_yields_List}
use Rattle.lines.specs.Lines.{is_newline}
use Rattle.lines.proofs.Stretches.{stretch_from}
use Rattle.lines.proofs.before_newline.Goals as goal

pub returns : goal.returns
unfolding is_newline
returns c = stretch_from is_newline _ (position_from_yields_List is_newline _ _ _ c.position.ensures.ran (YieldsList-from_slice c.args.s.now cc) (λ x b q k. search (rules, tests))) c.unwrap_or.ensures
