-- `named_lines::Table::said` meets its contract. Assumes nothing.
use Rattle.std.proofs.Common.{ap, ◌∙◌}
use Rattle.named_lines.specs.Named.{Named, Names, words_from}
use Rattle.named_lines.specs.Table.{row_of}
use Rattle.named_lines.proofs.Laws.{line_words, in_text}
use Rattle.named_lines.proofs.Table.said.Goals as goal

pub line_from-requires : goal.line_from-requires
line_from-requires c = in_text _ _ _ c.self.invariant _ c.self.view_is _ c.row.ensures.1.said

pub returns : goal.returns
unfolding row_of
returns c =
    c.of.ensures
    ∙ line_words _ _ (in_text _ _ _ c.self.invariant _ c.self.view_is _ c.row.ensures.1.said) _ c.line_from.ensures
    ∙ ap (λ (x : Names). words_from x.text c.row.result.settled) c.self.view_is
    ∙ ap (λ (x : Named). x.said) c.row.ensures.0
