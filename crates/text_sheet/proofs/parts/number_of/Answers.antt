-- `text_sheet::parts::number_of` meets its contract. Assumes nothing.
use Rattle.text_sheet.proofs.Laws.{number_found}
use Rattle.text_sheet.proofs.parts.number_of.Goals as goal

pub returns : goal.returns
returns c = rw (c.unwrap_or.ensures, c.position.ensures, c.len.ensures.lines) (number_found _ _)
