-- `state::put_heads` meets its contract. Assumes nothing.
use Rattle.numbering.proofs.Rows.{row_below}
use Rattle.state.specs.State.{solved_heads}
use Rattle.state.proofs.Turns.{no_heads, next_head}
use Rattle.state.proofs.Kept.{head_long}
use native.Mathlib.Omega.{arith}
use Prim.Native.Nat.{ℕ}
use mathlib.Core.Path.{◌≡◌, refl, ap, ◌∙◌}
use lib.ListN.{length}
use Rattle.state.proofs.put_heads.Goals as goal

pub loop-i-init : goal.loop-i-init
loop-i-init c = (no_heads _ _ _ _, refl)

pub put_head-requires-clause-i_in_bounds : goal.put_head-requires-clause-i_in_bounds
put_head-requires-clause-i_in_bounds c = (omega (arith, c.loop-i.invariant.1, c.requires.nodes_bound), c.requires.nodes_bound.1.1.0)

pub put_head-requires-clause-row_below : goal.put_head-requires-clause-row_below
put_head-requires-clause-row_below c = row_below c.args.sheet.now c.args.l c.loop-i.i c.args.l.nodes _ (c.unknown_of-row.ensures ∙ c.requires.rows_right.right c.loop-i.i c.loop-i-test.true) c.loop-i-test.true c.requires.nodes_bound.0

pub loop-i-preserved : goal.loop-i-preserved
loop-i-preserved c = (next_head _ _ _ _ _ _ _ _ (c.unknown_of-row.ensures ∙ c.requires.rows_right.right c.loop-i.i c.loop-i-test.true) c.loop-i.invariant.0 c.put_head.ensures, ap length c.put_head.ensures ∙ head_long _ _ _ _ ∙ c.loop-i.invariant.1)

pub shape_of-heads : goal.shape_of-heads
shape_of-heads c = c.loop-i.invariant.1

pub returns : goal.returns
returns c =
    let e : c.loop-i.i ≡ c.args.l.nodes = omega arith in
    c.loop-i.invariant.0 ∙ ap (λ (k : ℕ). solved_heads c.args.sheet.now c.args.l c.args.x.now k c.args.heads.now) e
