-- `assembly::building::add_grounded` meets its contract. Assumes nothing.
use Rattle.numbering.proofs.Rows.{row_below}
use Rattle.assembly.proofs.Built.{grounded_none, grounded_next}
use Rattle.assembly.specs.Assembly.{grounded_of}
use native.Mathlib.Omega.{arith}
use Prim.Native.Nat.{ℕ}
use mathlib.Core.Path.{◌≡◌, refl, ap, ◌∙◌}
use Rattle.assembly.proofs.building.add_grounded.Goals as goal

pub loop-i-init : goal.loop-i-init
loop-i-init c = (grounded_none _ _ _ _, refl)

pub ground-requires-clause-matrix_len : goal.ground-requires-clause-matrix_len
ground-requires-clause-matrix_len c =
    let row = c.unknown_of-row.ensures ∙ c.requires.rows_right.right c.loop-i.i c.loop-i-test.true in
    omega (arith, c.requires.nodes_bound, c.loop-i.invariant.1)

pub ground-requires-clause-row_below : goal.ground-requires-clause-row_below
ground-requires-clause-row_below c =
    let row = c.unknown_of-row.ensures ∙ c.requires.rows_right.right c.loop-i.i c.loop-i-test.true in
    row_below _ _ _ _ _ row c.loop-i-test.true c.requires.nodes_bound.0

pub loop-i-preserved : goal.loop-i-preserved
loop-i-preserved c =
    let row = c.unknown_of-row.ensures ∙ c.requires.rows_right.right c.loop-i.i c.loop-i-test.true in
    (grounded_next _ _ _ _ _ _ _ _ row c.loop-i.invariant.0 c.ground.ensures, omega (arith, c.ground.auto.matrix, c.loop-i.invariant.1))

pub shape_of-matrix : goal.shape_of-matrix
shape_of-matrix c = c.loop-i.invariant.1

pub returns : goal.returns
returns c =
    let e : c.loop-i.i ≡ c.args.l.nodes = omega arith in
    c.loop-i.invariant.0 ∙ ap (λ (k : ℕ). grounded_of c.args.sheet.now c.args.l c.args.grounded.now k c.args.matrix.now) e
