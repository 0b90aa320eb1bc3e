-- `link_rows::place_link` meets its contract. Assumes nothing.
use Rattle.numbering.proofs.Rows.{row_below}
use Rattle.link_rows.proofs.Laws.{placed}
use borrow.Author.Rules.{rules}
use mathlib.Core.Path.{◌∙◌}
use native.Mathlib.Omega.{arith}
use Prim.Native.Nat.{◌*◌}
use mir.Syntax.{w64}
use mir.Val.{Fits}
use Rattle.link_rows.proofs.place_link.Goals as goal

pub offset_bounds-flows-j : goal.offset_bounds-flows-j
offset_bounds-flows-j c =
    let small : Fits w64 (c.args.j * 8) = record { fits = omega (arith, c.requires.given.links, c.requires.j_lt_links.0) } in
    small

pub bounds-flows-j : goal.bounds-flows-j
bounds-flows-j c = omega (arith, c.requires.given.flows, c.requires.j_lt_links.0)

pub offset_bounds-g-j : goal.offset_bounds-g-j
offset_bounds-g-j c =
    let small : Fits w64 (c.args.j * 8) = record { fits = omega (arith, c.requires.given.links, c.requires.j_lt_links.0) } in
    small

pub bounds-g-j : goal.bounds-g-j
bounds-g-j c = omega (arith, c.requires.sized.g, c.requires.j_lt_links.0)

pub offset_bounds-y-j : goal.offset_bounds-y-j
offset_bounds-y-j c =
    let small : Fits w64 (c.args.j * 8) = record { fits = omega (arith, c.requires.given.links, c.requires.j_lt_links.0) } in
    small

pub bounds-y-j : goal.bounds-y-j
bounds-y-j c = omega (arith, c.requires.sized.y, c.requires.j_lt_links.0)

pub link_into_matrix-requires-clause-matrix_len : goal.link_into_matrix-requires-clause-matrix_len
link_into_matrix-requires-clause-matrix_len c =
    let ru = c.unknown_of-u.ensures ∙ c.requires.given.rows.right c.args.k.start c.requires.j_lt_links.1.0 in
    let rv = c.unknown_of-v.ensures ∙ c.requires.given.rows.right c.args.k.end c.requires.j_lt_links.1.1 in
    c.requires.sized.matrix

pub link_into_matrix-requires-clause-row_below : goal.link_into_matrix-requires-clause-row_below
link_into_matrix-requires-clause-row_below c =
    let ru = c.unknown_of-u.ensures ∙ c.requires.given.rows.right c.args.k.start c.requires.j_lt_links.1.0 in
    let rv = c.unknown_of-v.ensures ∙ c.requires.given.rows.right c.args.k.end c.requires.j_lt_links.1.1 in
    row_below _ _ _ _ _ ru c.requires.j_lt_links.1.0 c.requires.given.few

pub link_into_matrix-requires-clause-row_below_2 : goal.link_into_matrix-requires-clause-row_below_2
link_into_matrix-requires-clause-row_below_2 c =
    let ru = c.unknown_of-u.ensures ∙ c.requires.given.rows.right c.args.k.start c.requires.j_lt_links.1.0 in
    let rv = c.unknown_of-v.ensures ∙ c.requires.given.rows.right c.args.k.end c.requires.j_lt_links.1.1 in
    row_below _ _ _ _ _ rv c.requires.j_lt_links.1.1 c.requires.given.few

pub link_into_row-requires-clause-in_bounds : goal.link_into_row-requires-clause-in_bounds
link_into_row-requires-clause-in_bounds c =
    let ru = c.unknown_of-u.ensures ∙ c.requires.given.rows.right c.args.k.start c.requires.j_lt_links.1.0 in
    let rv = c.unknown_of-v.ensures ∙ c.requires.given.rows.right c.args.k.end c.requires.j_lt_links.1.1 in
    c.requires.sized.rhs

pub link_into_row-requires-clause-row_below : goal.link_into_row-requires-clause-row_below
link_into_row-requires-clause-row_below c =
    let ru = c.unknown_of-u.ensures ∙ c.requires.given.rows.right c.args.k.start c.requires.j_lt_links.1.0 in
    let rv = c.unknown_of-v.ensures ∙ c.requires.given.rows.right c.args.k.end c.requires.j_lt_links.1.1 in
    row_below _ _ _ _ _ ru c.requires.j_lt_links.1.0 c.requires.given.few

pub link_into_row-requires-clause-row_below_2 : goal.link_into_row-requires-clause-row_below_2
link_into_row-requires-clause-row_below_2 c =
    let ru = c.unknown_of-u.ensures ∙ c.requires.given.rows.right c.args.k.start c.requires.j_lt_links.1.0 in
    let rv = c.unknown_of-v.ensures ∙ c.requires.given.rows.right c.args.k.end c.requires.j_lt_links.1.1 in
    row_below _ _ _ _ _ rv c.requires.j_lt_links.1.1 c.requires.given.few

pub returns : goal.returns
returns c =
    let ru = c.unknown_of-u.ensures ∙ c.requires.given.rows.right c.args.k.start c.requires.j_lt_links.1.0 in
    let rv = c.unknown_of-v.ensures ∙ c.requires.given.rows.right c.args.k.end c.requires.j_lt_links.1.1 in
    placed _ _ _ _ _ _ _ _ _ _ _ _ _ _ _ _ ru rv c.is_fixed-fixed_start.ensures c.is_fixed-fixed_end.ensures c.link_into_matrix.ensures c.link_into_row.ensures
