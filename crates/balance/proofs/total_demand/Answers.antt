-- `balance::total_demand` meets its contract. Assumes nothing.
use Rattle.balance.specs.Balance.{demand_of}
use Rattle.balance.proofs.Turns.{no_demand, demand_in, demand_out}
use native.Mathlib.Omega.{arith}
use Prim.Native.Nat.{◌-◌, ◌≤◌}
use mathlib.Core.Path.{◌≡◌, sym, ap, ◌∙◌}
use Rattle.balance.proofs.total_demand.Goals as goal
use Rattle.balance.proofs.total_demand.Goals.{then-in_service, else-in_service}

pub loop-i-init : goal.loop-i-init
loop-i-init c = (omega arith, no_demand _ _ _)

pub in_service-requires-clause-laid : goal.in_service-requires-clause-laid
in_service-requires-clause-laid c = c.requires.laid

pub in_service-requires-clause-i_lt_nodes : goal.in_service-requires-clause-i_lt_nodes
in_service-requires-clause-i_lt_nodes c = c.loop-i-test.true

pub loop-i-preserved : goal.loop-i-preserved
loop-i-preserved c = (
  omega (arith, c.loop-i-test.true),
  elim c.if-in_service.branch [
    | then-in_service w ↦ demand_in _ _ _ _ _ _ c.loop-i.invariant.1 w.total-is (sym c.in_service.ensures ∙ w.if-in_service.true)
    | else-in_service w ↦ demand_out _ _ _ _ _ _ c.loop-i.invariant.1 w.total-is (sym c.in_service.ensures ∙ w.if-in_service.false)
  ],
)

pub returns : goal.returns
returns c =
    let e : c.loop-i.i ≡ c.args.l.nodes = omega (arith, c.loop-i.invariant.0, c.loop-i-test.false) in
    c.loop-i.invariant.1 ∙ ap (demand_of c.args.sheet.now c.args.l c.args.demands.now) e
