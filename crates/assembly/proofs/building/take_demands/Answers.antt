-- `assembly::building::take_demands` meets its contract. Assumes nothing.
use Rattle.numbering.proofs.Rows.{row_below}
use Rattle.assembly.proofs.Built.{demands_from_lem, demands_on}
use Rattle.assembly.specs.Assembly.{demands_taken}
use native.Mathlib.Omega.{arith}
use Prim.Native.Nat.{ℕ}
use mathlib.Core.Path.{◌≡◌, refl, ap, ◌∙◌}
use Rattle.assembly.proofs.building.take_demands.Goals as goal

pub loop-i-init : goal.loop-i-init
loop-i-init c = (demands_from_lem _ _ _ _, refl)

pub take_from_row-requires-clause-in_bounds : goal.take_from_row-requires-clause-in_bounds
take_from_row-requires-clause-in_bounds c =
    let row = c.unknown_of-row.ensures ∙ c.requires.rows_right.right c.loop-i.i c.loop-i-test.true in
    omega (arith, c.requires.nodes_bound, c.loop-i.invariant.1)

pub take_from_row-requires-clause-row_below : goal.take_from_row-requires-clause-row_below
take_from_row-requires-clause-row_below c =
    let row = c.unknown_of-row.ensures ∙ c.requires.rows_right.right c.loop-i.i c.loop-i-test.true in
    row_below _ _ _ _ _ row c.loop-i-test.true c.requires.nodes_bound.0

pub loop-i-preserved : goal.loop-i-preserved
loop-i-preserved c =
    let row = c.unknown_of-row.ensures ∙ c.requires.rows_right.right c.loop-i.i c.loop-i-test.true in
    (demands_on _ _ _ _ _ _ _ _ row c.loop-i.invariant.0 c.take_from_row.ensures, omega (arith, c.take_from_row.auto.rhs, c.loop-i.invariant.1))

pub shape_of-rhs : goal.shape_of-rhs
shape_of-rhs c = c.loop-i.invariant.1

pub returns : goal.returns
returns c =
    let e : c.loop-i.i ≡ c.args.l.nodes = omega arith in
    c.loop-i.invariant.0 ∙ ap (λ (k : ℕ). demands_taken c.args.sheet.now c.args.l c.args.demands.now k c.args.rhs.now) e
