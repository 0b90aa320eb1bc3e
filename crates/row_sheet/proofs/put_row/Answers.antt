-- `row_sheet::put_row` meets its contract. Assumes nothing.
use native.Mathlib.Omega.{arith}
use Prim.Native.Nat.{◌*◌, ◌-◌, ◌≤◌}
use native.Mathlib.Nat.{mul-le-mul}
use mathlib.Core.Path.{◌≡◌, ap, ◌∙◌}
use borrow.Author.Rules.{rules}
use lib.ListN.{length}
use Rattle.layout.proofs.Laws.{node_within}
use Rattle.row_sheet.specs.RowSheet.{demands_put}
use Rattle.row_sheet.proofs.Laws.{demands_long, demands_none, demands_next, demands_all}
use Rattle.row_sheet.proofs.put_row.Goals as goal

pub loop-i-init : goal.loop-i-init
loop-i-init c = (omega arith, demands_none _ _ _ _)

pub node_place-requires : goal.node_place-requires
node_place-requires c = omega (arith, node_within c.args.l c.args.sheet.now c.loop-i.i c.requires.laid (omega arith))

pub overflow_add-node_place : goal.overflow_add-node_place
overflow_add-node_place c = omega (arith, c.node_place.ensures, node_within c.args.l c.args.sheet.now c.loop-i.i c.requires.laid (omega arith))

pub overflow_mul-r : goal.overflow_mul-r
overflow_mul-r c =
    let small : c.args.r * c.args.l.nodes ≤ 1984 = mul-le-mul c.requires.nodes_bound.1 c.requires.nodes_bound.0 in
    omega (arith, small)

pub overflow_add-r : goal.overflow_add-r
overflow_add-r c =
    let small : c.args.r * c.args.l.nodes ≤ 1984 = mul-le-mul c.requires.nodes_bound.1 c.requires.nodes_bound.0 in
    omega (arith, small)

pub offset_bounds-table-r : goal.offset_bounds-table-r
offset_bounds-table-r c =
    let small : c.args.r * c.args.l.nodes ≤ 1984 = mul-le-mul c.requires.nodes_bound.1 c.requires.nodes_bound.0 in
    omega (arith, small)

pub bounds-table-r : goal.bounds-table-r
bounds-table-r c = omega (arith, c.loop-i-test.true, c.requires.nodes_bound.2)

pub put_number-requires : goal.put_number-requires
put_number-requires c =
    let long = ap length c.loop-i.invariant.1 ∙ demands_long c.loop-i.i c.args.sheet.now c.args.l c.args.table.now c.args.r in
    omega (arith, c.node_place.ensures, long, node_within c.args.l c.args.sheet.now c.loop-i.i c.requires.laid (omega arith))

pub loop-i-preserved : goal.loop-i-preserved
loop-i-preserved c = (omega arith, demands_next c.loop-i.i _ _ _ c.loop-i.sheet _ _ _ _ c.loop-i.invariant.1 c.node_place.ensures c.pattern.ensures c.put_number.ensures)

pub shape_of-sheet : goal.shape_of-sheet
shape_of-sheet c = ap length c.loop-i.invariant.1 ∙ demands_long _ _ _ _ _

pub returns : goal.returns
returns c = demands_all c.loop-i.i _ _ _ _ _ (omega arith) c.loop-i.invariant.1
