-- `excess::any_regulator` meets its contract. Assumes nothing.
use Rattle.excess.specs.Excess.{present}
use Rattle.excess.proofs.Turns.{present_none, present_next}
use native.Mathlib.Omega.{arith}
use Prim.Native.Nat.{◌-◌, ◌≤◌}
use mathlib.Core.Path.{◌≡◌, ap, ◌∙◌}
use Rattle.excess.proofs.any_regulator.Goals as goal

pub loop-i-init : goal.loop-i-init
loop-i-init c = (omega arith, present_none _ _)

pub is_regulator-found-requires-clause-laid : goal.is_regulator-found-requires-clause-laid
is_regulator-found-requires-clause-laid c = c.requires

pub is_regulator-found-requires-clause-j_lt_links : goal.is_regulator-found-requires-clause-j_lt_links
is_regulator-found-requires-clause-j_lt_links c = c.loop-i-test.true

pub loop-i-preserved : goal.loop-i-preserved
loop-i-preserved c = (omega arith, present_next _ _ _ _ _ c.loop-i.invariant.1 c.is_regulator-found.ensures)

pub returns : goal.returns
returns c =
    let e : c.loop-i.i ≡ c.args.l.links = omega arith in
    c.loop-i.invariant.1 ∙ ap (present c.args.sheet.now c.args.l) e
