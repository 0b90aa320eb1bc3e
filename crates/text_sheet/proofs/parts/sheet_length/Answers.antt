-- `text_sheet::parts::sheet_length` meets its contract. Assumes nothing.
use Rattle.std.proofs.Common.{ap, sym, ◌∙◌, length}
use Rattle.known.specs.Known.{Reading}
use Rattle.text_sheet.specs.Sheet.{sheet_of}
use Rattle.text_sheet.proofs.Sizes.{size_plain, size_bends, sheet_size_lem}
use Rattle.text_sheet.proofs.parts.sheet_length.Goals as goal

pub returns-then-known : goal.returns-then-known
returns-then-known c =
    rw (c.len.ensures.lines, c.len-2.ensures.lines) (sym (sheet_size_lem _ ∙ size_bends _ _ _ c.if-known.true) ∙ ap (λ (x : Reading). length (sheet_of x.known)) c.known.view_is)

pub returns : goal.returns
returns c =
    rw (c.len.ensures.lines, c.len-2.ensures.lines) (sym (sheet_size_lem _ ∙ size_plain _ _ _ c.if-known.false) ∙ ap (λ (x : Reading). length (sheet_of x.known)) c.known.view_is)
