-- `text_sheet::parts::put_links` meets its contract. The invariant: the first j links are put. Assumes nothing.
use Rattle.std.proofs.Common.{arith}
use Rattle.text_sheet.proofs.Laws.{put_length, links_none, links_turn, links_end}
use Rattle.text_sheet.proofs.parts.put_links.Goals as goal

pub loop-j-init : goal.loop-j-init
loop-j-init c = (omega arith, links_none _ _ _ _)

pub put_link-end-requires : goal.put_link-end-requires
put_link-end-requires c = omega (arith, c.requires, c.loop-j-test.true, c.len-j-end.ensures.lines, links_end _ _ _ _ c.loop-j.invariant.0 c.loop-j.invariant.1, put_length c.loop-j.invariant.1)

pub loop-j-preserved : goal.loop-j-preserved
loop-j-preserved c =
    (omega (arith, c.loop-j-test.true, c.len-j-end.ensures.lines), links_turn _ _ (omega (arith, c.loop-j-test.true, c.len-j-end.ensures.lines)) _ _ _ (rw (c.link_record-link.ensures, c.units_of-u.ensures, c.kind.ensures, c.said.ensures, c.number_of.ensures, c.number_of-in-loop-j.ensures, c.word.ensures, c.word-in-loop-j.ensures, c.words-words.ensures)) c.loop-j.invariant.1 c.put_link-end.ensures.put)
