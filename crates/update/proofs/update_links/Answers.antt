-- `update::update_links` meets its contract. Assumes nothing.
use Rattle.update.proofs.Made.{Upto, updates_none, updates_next, updates_all}
use Rattle.update.specs.Update.{basis}
use native.Mathlib.Omega.{arith}
use Prim.Native.Nat.{◌-◌}
use mathlib.Core.Path.{◌≡◌, refl}
use Rattle.update.proofs.update_links.Goals as goal

pub loop-j-init : goal.loop-j-init
loop-j-init c = record { upto = omega arith; made = updates_none _ _ _ _; q_long = refl; c_long = refl }

pub update_link-u-requires-clause-laid : goal.update_link-u-requires-clause-laid
update_link-u-requires-clause-laid c = c.requires.laid

pub update_link-u-requires-clause-ends_in : goal.update_link-u-requires-clause-ends_in
update_link-u-requires-clause-ends_in c = c.requires.ends_in

pub update_link-u-requires-clause-nodes_in_bounds : goal.update_link-u-requires-clause-nodes_in_bounds
update_link-u-requires-clause-nodes_in_bounds c = (c.requires.nodes_in_bounds.0, c.loop-j-test.true)

pub update_link-u-requires-clause-j_in_bounds : goal.update_link-u-requires-clause-j_in_bounds
update_link-u-requires-clause-j_in_bounds c =
    let bounds = c.requires.nodes_in_bounds in
    let columns = bounds.1.1 in
    (omega (arith, bounds.1.0, c.loop-j-test.true), (omega (arith, columns.0, c.loop-j-test.true), (omega (arith, columns.1.0, c.loop-j.invariant.q_long, c.loop-j-test.true), omega (arith, columns.1.1, c.loop-j.invariant.c_long, c.loop-j-test.true))))

pub loop-j-preserved : goal.loop-j-preserved
loop-j-preserved c =
    record {
      upto = omega (arith, c.loop-j-test.true);
      made = updates_next _ _ _ _ _ _ _ c.loop-j.invariant.made c.update_link-u.ensures;
      q_long = omega (arith, c.update_link-u.auto, c.loop-j.invariant.q_long);
      c_long = omega (arith, c.update_link-u.auto, c.loop-j.invariant.c_long);
    }

pub shape_of-flows : goal.shape_of-flows
shape_of-flows c = c.loop-j.invariant.q_long

pub shape_of-statuses : goal.shape_of-statuses
shape_of-statuses c = c.loop-j.invariant.c_long

pub returns : goal.returns
returns c =
    let e : c.loop-j.j ≡ c.args.l.links = omega (arith, c.loop-j.invariant.upto, c.loop-j-test.false) in
    updates_all _ _ _ _ _ _ _ c.loop-j.invariant.made e
