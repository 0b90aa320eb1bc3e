-- `bends::bend_node` meets its contract. Assumes nothing.
use Rattle.numbering.proofs.Rows.{row_below}
use Rattle.bends.proofs.Laws.{node_bent, node_straight}
use borrow.Author.Rules.{rules}
use native.Mathlib.Omega.{arith}
use Prim.Native.Nat.{ℕ, suc, ◌+◌, ◌*◌, ◌-◌, ◌≤◌, ◌<◌}
use mathlib.Core.Path.{◌≡◌, refl, sym, ap, ◌∙◌}
use native.Mathlib.Numerals.{add-one}
use lib.ListN.{length, get_or, set, length-set}
use borrow.Author.Rules.{rules}
use Rattle.bends.proofs.bend_node.Goals as goal

pub add_bend-requires-clause-matrix_len : goal.add_bend-requires-clause-matrix_len
add_bend-requires-clause-matrix_len c =
    let row = c.unknown_of-row.ensures ∙ c.requires.bending.rows.right _ c.requires.matrix_len.1.1 in
    (c.requires.matrix_len.0, c.requires.matrix_len.1.0)

pub add_bend-requires-clause-row_below : goal.add_bend-requires-clause-row_below
add_bend-requires-clause-row_below c =
    let row = c.unknown_of-row.ensures ∙ c.requires.bending.rows.right _ c.requires.matrix_len.1.1 in
    row_below _ _ _ _ _ row c.requires.matrix_len.1.1 c.requires.bending.few

pub returns-then-gives_way-clause-matrix : goal.returns-then-gives_way-clause-matrix
returns-then-gives_way-clause-matrix c =
    let row = c.unknown_of-row.ensures ∙ c.requires.bending.rows.right _ c.requires.matrix_len.1.1 in
    (node_bent _ _ _ _ _ _ _ _ _ _ _ _ _ _ _ _ c.in_service.ensures c.gives_way.ensures c.if-gives_way.true row c.pressure_range.ensures c.bend_of-b.ensures c.elevation-up.ensures c.add_bend.ensures.matrix c.add_bend.ensures.rhs).0

pub returns-then-gives_way-clause-rhs : goal.returns-then-gives_way-clause-rhs
returns-then-gives_way-clause-rhs c =
    let row = c.unknown_of-row.ensures ∙ c.requires.bending.rows.right _ c.requires.matrix_len.1.1 in
    (node_bent _ _ _ _ _ _ _ _ _ _ _ _ _ _ _ _ c.in_service.ensures c.gives_way.ensures c.if-gives_way.true row c.pressure_range.ensures c.bend_of-b.ensures c.elevation-up.ensures c.add_bend.ensures.matrix c.add_bend.ensures.rhs).1

pub returns-else-gives_way-clause-matrix : goal.returns-else-gives_way-clause-matrix
returns-else-gives_way-clause-matrix c =
    (node_straight _ _ _ _ _ _ _ _ c.args.matrix.now c.args.rhs.now c.in_service.ensures c.gives_way.ensures c.if-gives_way.false).0

pub returns-else-gives_way-clause-rhs : goal.returns-else-gives_way-clause-rhs
returns-else-gives_way-clause-rhs c =
    (node_straight _ _ _ _ _ _ _ _ c.args.matrix.now c.args.rhs.now c.in_service.ensures c.gives_way.ensures c.if-gives_way.false).1
