-- `numbering::node_of` meets its contract. Assumes nothing.
use mathlib.Core.Path.{refl, ◌∙◌}
use native.Mathlib.Numerals.{add-one}
use Rattle.numbering.proofs.Rows.{none_found, found_same, found_next}
use Rattle.numbering.proofs.node_of.Goals as goal
use Rattle.numbering.proofs.node_of.Goals.{then-eq, else-eq}

pub loop-i-init : goal.loop-i-init
loop-i-init c = none_found _ _ _

pub loop-i-preserved : goal.loop-i-preserved
loop-i-preserved c =
    let row = c.unknown_of.ensures ∙ c.requires.rows_right.right c.loop-i.i c.loop-i-test.true in
    elim c.if-eq.branch [
      | then-eq w ↦ rw add-one (found_next _ _ c.loop-i.i _ _ _ _ row c.loop-i.invariant (found_same _ _ _ _ _ _ _ (λ v. refl) c.eq.ensures (rw w.if-eq.true w.node-is)))
      | else-eq w ↦ rw add-one (found_next _ _ c.loop-i.i _ _ _ _ row c.loop-i.invariant (found_same _ _ _ _ _ _ _ (λ v. refl) c.eq.ensures (rw w.if-eq.false w.node-is)))
    ]
