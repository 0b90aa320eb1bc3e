-- `nodes::count_serving` meets its contract: after i nodes those in service among them are counted. Assumes nothing.
use mathlib.Core.Path.{◌≡◌, sym, ap, ◌∙◌}
use mathlib.Core.Logic.{⊎_elim}
use Prim.Native.Nat.{◌-◌}
use native.Mathlib.Omega.{arith}
use Rattle.nodes.specs.Nodes.{serving}
use Rattle.nodes.proofs.Reading.{Counted, none_yet, one_more, same}
use Rattle.nodes.proofs.count_serving.Goals as goal
use Rattle.nodes.proofs.count_serving.Goals.{then-in_service, else-in_service}

pub loop-i-init : goal.loop-i-init
loop-i-init c = none_yet _ _

pub in_service-requires-clause-laid : goal.in_service-requires-clause-laid
in_service-requires-clause-laid c = c.requires

pub in_service-requires-clause-i_lt_nodes : goal.in_service-requires-clause-i_lt_nodes
in_service-requires-clause-i_lt_nodes c = c.loop-i-test.true

pub overflow_add-count : goal.overflow_add-count
overflow_add-count c = omega (arith, c.loop-i.invariant.few, c.loop-i.invariant.upto, c.loop-i-test.true)

pub loop-i-preserved : goal.loop-i-preserved
loop-i-preserved c =
    elim c.if-in_service.branch [
      | then-in_service w ↦ one_more _ _ _ _ _ c.loop-i.invariant c.loop-i-test.true w.count-is (sym c.in_service.ensures ∙ w.if-in_service.true)
      | else-in_service w ↦ same _ _ _ _ _ c.loop-i.invariant c.loop-i-test.true w.count-is (sym c.in_service.ensures ∙ w.if-in_service.false)
    ]

pub returns : goal.returns
returns c = let e : c.loop-i.i ≡ c.args.l.nodes = omega (arith, c.loop-i.invariant.upto, c.loop-i-test.false) in c.loop-i.invariant.counted ∙ ap (serving _ _) e
