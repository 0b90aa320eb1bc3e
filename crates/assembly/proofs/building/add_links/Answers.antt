-- `assembly::building::add_links` meets its contract. Assumes nothing.
use Rattle.assembly.proofs.Built.{links_none, links_next, sized_kept}
use Rattle.assembly.specs.Assembly.{view, system, with_links}
use native.Mathlib.Omega.{arith}
use Prim.Native.Nat.{ℕ}
use mathlib.Core.Path.{◌≡◌, refl, ap, ◌∙◌}
use Rattle.assembly.proofs.building.add_links.Goals as goal

pub loop-j-init : goal.loop-j-init
loop-j-init c = record { upto = omega arith; made = links_none _ _ _ _; m_long = refl; r_long = refl; g_long = refl; y_long = refl }

pub add_link-requires-clause-given : goal.add_link-requires-clause-given
add_link-requires-clause-given c = c.requires.given

pub add_link-requires-clause-sized : goal.add_link-requires-clause-sized
add_link-requires-clause-sized c = sized_kept c.requires.sized c.loop-j.invariant.m_long c.loop-j.invariant.r_long c.loop-j.invariant.g_long c.loop-j.invariant.y_long

pub loop-j-preserved : goal.loop-j-preserved
loop-j-preserved c =
    record {
      upto = omega (arith, c.loop-j-test.true);
      made = links_next _ _ _ _ _ _ _ c.loop-j.invariant.made c.add_link.ensures;
      m_long = omega (arith, c.add_link.auto, c.loop-j.invariant.m_long);
      r_long = omega (arith, c.add_link.auto, c.loop-j.invariant.r_long);
      g_long = omega (arith, c.add_link.auto, c.loop-j.invariant.g_long);
      y_long = omega (arith, c.add_link.auto, c.loop-j.invariant.y_long);
    }

pub shape_of-matrix : goal.shape_of-matrix
shape_of-matrix c = c.loop-j.invariant.m_long

pub shape_of-rhs : goal.shape_of-rhs
shape_of-rhs c = c.loop-j.invariant.r_long

pub shape_of-g : goal.shape_of-g
shape_of-g c = c.loop-j.invariant.g_long

pub shape_of-y : goal.shape_of-y
shape_of-y c = c.loop-j.invariant.y_long

pub returns : goal.returns
returns c =
    let e : c.loop-j.j ≡ c.args.l.links = omega (arith, c.loop-j.invariant.upto, c.loop-j-test.false) in
    c.loop-j.invariant.made ∙ ap (λ (k : ℕ). with_links c.args.sheet.now c.args.l (view c.args.heads.now c.args.flows.now c.args.statuses.now c.args.excess.now) k (system c.args.matrix.now c.args.rhs.now c.args.g.now c.args.y.now)) e
