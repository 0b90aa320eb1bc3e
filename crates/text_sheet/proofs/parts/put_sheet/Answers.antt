-- `text_sheet::parts::put_sheet` meets its contract: the head, the nodes and the links, one behind the other. Assumes nothing.
use Rattle.std.proofs.Common.{arith, ap, ◌∙◌, length}
use Rattle.words.specs.Buffer.{placed}
use Rattle.words.proofs.Laws.{then}
use Rattle.known.specs.Known.{Reading}
use Rattle.known.specs.Knowledge.{reading}
use Rattle.text_sheet.specs.Sheet.{sheet_of}
use Rattle.text_sheet.proofs.Laws.{put_length, nodes_size}
use Rattle.text_sheet.proofs.Sizes.{size_parts, head_size, sheet_size_lem}
use Rattle.text_sheet.proofs.parts.put_sheet.Goals as goal

pub put_head-behind_head-requires : goal.put_head-behind_head-requires
put_head-behind_head-requires c =
    let x = (reading c.known.inside).known in
    omega (arith, c.requires, ap (λ (y : Reading). length (sheet_of y.known)) c.known.view_is, sheet_size_lem x, size_parts x.settings (length x.nodes) (length x.links))

pub put_nodes-behind_nodes-requires : goal.put_nodes-behind_nodes-requires
put_nodes-behind_nodes-requires c =
    let x = (reading c.known.inside).known in
    omega (arith, c.requires, ap (λ (y : Reading). length (sheet_of y.known)) c.known.view_is, sheet_size_lem x, size_parts x.settings (length x.nodes) (length x.links), c.put_head-behind_head.ensures.next, put_length c.put_head-behind_head.ensures, head_size x.settings)

pub put_links-requires : goal.put_links-requires
put_links-requires c =
    let x = (reading c.known.inside).known in
    omega (arith, c.requires, ap (λ (y : Reading). length (sheet_of y.known)) c.known.view_is, sheet_size_lem x, size_parts x.settings (length x.nodes) (length x.links), c.put_head-behind_head.ensures.next, put_length c.put_head-behind_head.ensures, head_size x.settings, c.put_nodes-behind_nodes.ensures.next, nodes_size x.settings x.nodes, put_length c.put_nodes-behind_nodes.ensures)

pub returns : goal.returns
unfolding sheet_of
returns c =
    (then (then c.put_head-behind_head.ensures c.put_nodes-behind_nodes.ensures) c.put_links.ensures).bytes
    ∙ ap (λ (y : Reading). placed c.args.sheet.now 0 (sheet_of y.known)) c.known.view_is
