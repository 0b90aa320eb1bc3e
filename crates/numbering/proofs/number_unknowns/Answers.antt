-- `numbering::number_unknowns` meets its contract: after i nodes the column holds the numbers of the first i. Assumes nothing.
use mathlib.Core.Path.{◌≡◌, sym, ap, ◌∙◌}
use Prim.Native.Nat.{ℕ}
use native.Mathlib.Omega.{arith}
use Rattle.numbering.specs.Numbering.{numbered}
use Rattle.numbering.proofs.Numbers.{start, room, after-in, after-out}
use Rattle.numbering.proofs.number_unknowns.Goals as goal
use Rattle.numbering.proofs.number_unknowns.Goals.{then-in_service, else-in_service}

pub loop-i-init : goal.loop-i-init
loop-i-init c = start _ _ _

pub in_service-requires-clause-laid : goal.in_service-requires-clause-laid
in_service-requires-clause-laid c = c.requires.laid

pub in_service-requires-clause-i_lt_nodes : goal.in_service-requires-clause-i_lt_nodes
in_service-requires-clause-i_lt_nodes c = c.loop-i-test.true

pub bounds-unknowns-i : goal.bounds-unknowns-i
bounds-unknowns-i c = omega (arith, c.loop-i.invariant.long, c.requires.nodes_in_bounds, c.loop-i-test.true)

pub overflow_add-count : goal.overflow_add-count
overflow_add-count c = omega (arith, room _ _ _ c.loop-i.invariant c.loop-i-test.true, c.loop-i-test.true)

pub bounds-unknowns-i-else-in_service : goal.bounds-unknowns-i-else-in_service
bounds-unknowns-i-else-in_service c = omega (arith, c.loop-i.invariant.long, c.requires.nodes_in_bounds, c.loop-i-test.true)

pub loop-i-preserved : goal.loop-i-preserved
loop-i-preserved c =
    elim c.if-in_service.branch [
      | then-in_service w ↦ after-in _ _ _ c.loop-i.invariant c.loop-i-test.true _ _ w.unknowns-is w.count-is (sym c.in_service.ensures ∙ w.if-in_service.true)
      | else-in_service w ↦ after-out _ _ _ c.loop-i.invariant c.loop-i-test.true _ _ w.unknowns-is w.count-is (sym c.in_service.ensures ∙ w.if-in_service.false)
    ]

pub shape_of-unknowns : goal.shape_of-unknowns
shape_of-unknowns c = c.loop-i.invariant.long

pub returns : goal.returns
returns c = let e : c.loop-i.i ≡ c.args.l.nodes = omega (arith, c.loop-i.invariant.upto, c.loop-i-test.false) in c.loop-i.invariant.forth ∙ ap (λ (k : ℕ). numbered c.args.sheet.now c.args.l k c.args.unknowns.now) e
