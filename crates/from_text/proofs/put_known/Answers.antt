-- `from_text::put_known` meets its contract: too short a buffer, or both are put. Assumes nothing.
use Rattle.std.proofs.Common.{arith, ap, ◌∙◌, length}
use Rattle.words.specs.Buffer.{placed}
use Rattle.words.proofs.Laws.{then}
use Rattle.known.specs.Known.{Reading}
use Rattle.known.specs.Knowledge.{reading}
use Rattle.text_sheet.specs.Sheet.{names_of}
use Rattle.text_sheet.proofs.Laws.{put_length}
use Rattle.text_sheet.proofs.Sizes.{names_size}
use Rattle.from_text.proofs.Laws.{too_short_lem, both_fit, both_put, same_counts}
use Rattle.from_text.proofs.put_known.Goals as goal

pub returns-then-sheet-bytes : goal.returns-then-sheet-bytes
returns-then-sheet-bytes c = too_short_lem _ _ _ _ _ c.sheet_length-bytes.ensures c.names_fit.ensures _ c.if-sheet-bytes.true c.refused.ensures

pub put_names-end-requires : goal.put_names-end-requires
put_names-end-requires c =
    let fit = both_fit _ c.args.sheet.now _ _ _ c.sheet_length-bytes.ensures c.names_fit.ensures c.if-sheet-bytes.false in
    omega (arith, fit.1, names_size (reading c.known.inside).known, ap (λ (y : Reading). length (names_of y.known)) c.known.view_is)

pub put_names-size-requires : goal.put_names-size-requires
put_names-size-requires c =
    let fit = both_fit _ c.args.sheet.now _ _ _ c.sheet_length-bytes.ensures c.names_fit.ensures c.if-sheet-bytes.false in
    omega (arith, fit.1, names_size (reading c.known.inside).known, ap (λ (y : Reading). length (names_of y.known)) c.known.view_is, c.put_names-end.ensures.next, put_length c.put_names-end.ensures)

pub returns : goal.returns
unfolding names_of
returns c =
    both_put _ _ _ _ _ c.sheet_length-bytes.ensures c.names_fit.ensures _ _ _ c.if-sheet-bytes.false
    (same_counts
    (c.len.ensures.lines ∙ ap (λ (y : Reading). length y.known.nodes) c.known.view_is)
    (c.len-2.ensures.lines ∙ ap (λ (y : Reading). length y.known.links) c.known.view_is)
    c.sheet_length-bytes.ensures
    (omega (arith, names_size (reading c.known.inside).known, ap (λ (y : Reading). length (names_of y.known)) c.known.view_is, c.put_names-end.ensures.next, c.put_names-size.ensures.next)))
    c.put_sheet.ensures
    ((then c.put_names-end.ensures c.put_names-size.ensures).bytes ∙ ap (λ (y : Reading). placed c.args.names.now 0 (names_of y.known)) c.known.view_is)
