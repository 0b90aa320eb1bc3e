-- `named_lines::Table::name_at` meets its contract. Assumes nothing.
use Rattle.named_lines.proofs.Laws.{in_text, first_of}
use Rattle.named_lines.proofs.Table.name_at.Goals as goal

pub line_from-requires : goal.line_from-requires
line_from-requires c = in_text _ _ _ c.self.invariant _ c.self.view_is _ c.requires

pub returns : goal.returns
returns c = first_of _ _ _ c.self.invariant _ c.self.view_is _ _ c.line_from.ensures _ c.next_word.ensures
