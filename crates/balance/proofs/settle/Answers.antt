-- `balance::settle` meets its contract. Assumes nothing.
use Rattle.balance.specs.Balance.{settled_of}
use Rattle.balance.proofs.Turns.{no_settled, next_settled}
use Rattle.columns.proofs.Laws.{add_long}
use native.Mathlib.Omega.{arith}
use Prim.Native.Nat.{ℕ, ◌-◌, ◌≤◌}
use mathlib.Core.Path.{◌≡◌, refl, ap, ◌∙◌}
use lib.ListN.{length}
use Rattle.balance.proofs.settle.Goals as goal

pub loop-i-init : goal.loop-i-init
loop-i-init c = (omega arith, no_settled _, refl)

pub loop-i-preserved : goal.loop-i-preserved
loop-i-preserved c = (omega arith, next_settled _ _ _ _ c.loop-i.invariant.1 c.add_to.ensures, ap length c.add_to.ensures ∙ add_long _ _ _ ∙ c.loop-i.invariant.2)

pub shape_of-demands : goal.shape_of-demands
shape_of-demands c = c.loop-i.invariant.2

pub returns : goal.returns
returns c =
    let e : c.loop-i.i ≡ c.args.nodes = omega arith in
    c.loop-i.invariant.1 ∙ ap (λ (k : ℕ). settled_of k c.args.demands.now) e
