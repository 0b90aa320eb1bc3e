-- `tanks::tank_links` meets its contract. Assumes nothing.
use Rattle.tanks.proofs.Turns.{next, tanks_none, tanks_here, tanks_other, tanks_all}
use Rattle.tanks.specs.Tanks.{tanks}
use native.Mathlib.Omega.{arith}
use mathlib.Core.Path.{◌≡◌, refl, ap}
use lib.ListN.{length}
use Rattle.tanks.proofs.tank_links.Goals as goal
use Rattle.tanks.proofs.tank_links.Goals.{then-is_tank, else-is_tank}

pub loop-i-init : goal.loop-i-init
loop-i-init c = record { upto = omega arith; made = tanks_none _ _ _ _ _; d_long = refl; t_long = refl }

pub is_tank-requires-clause-laid : goal.is_tank-requires-clause-laid
is_tank-requires-clause-laid c = c.requires.laid

pub is_tank-requires-clause-i_lt_nodes : goal.is_tank-requires-clause-i_lt_nodes
is_tank-requires-clause-i_lt_nodes c = c.loop-i-test.true

pub update_tank-requires-clause-laid : goal.update_tank-requires-clause-laid
update_tank-requires-clause-laid c = c.requires.laid

pub update_tank-requires-clause-links_at : goal.update_tank-requires-clause-links_at
update_tank-requires-clause-links_at c = c.requires.links_at

pub update_tank-requires-clause-i_lt_nodes : goal.update_tank-requires-clause-i_lt_nodes
update_tank-requires-clause-i_lt_nodes c = omega (arith, c.requires.nodes_in_bounds, c.loop-i-test.true, c.loop-i.invariant.d_long, c.loop-i.invariant.t_long)

pub loop-i-preserved : goal.loop-i-preserved
loop-i-preserved c =
    elim c.if-is_tank.branch [
      | then-is_tank w ↦ next c.loop-i.invariant c.loop-i-test.true (tanks_here c.args.sheet.now c.args.l c.args.heads.now c.args.flows.now c.loop-i.i (tanks c.args.demands.now c.args.statuses.now) (tanks c.loop-i.demands c.loop-i.statuses) _ _ _ _ _ c.loop-i.invariant.made c.is_tank.ensures w.if-is_tank.true w.update_tank.ensures w.demands-is w.statuses-is) (omega (arith, ap length w.demands-is, w.update_tank.auto)) (omega (arith, ap length w.statuses-is, w.update_tank.auto))
      | else-is_tank w ↦ next c.loop-i.invariant c.loop-i-test.true (tanks_other c.args.sheet.now c.args.l c.args.heads.now c.args.flows.now c.loop-i.i (tanks c.args.demands.now c.args.statuses.now) _ _ _ _ _ c.loop-i.invariant.made c.is_tank.ensures w.if-is_tank.false w.demands-is w.statuses-is) (ap length w.demands-is) (ap length w.statuses-is)
    ]

pub shape_of-demands : goal.shape_of-demands
shape_of-demands c = c.loop-i.invariant.d_long

pub shape_of-statuses : goal.shape_of-statuses
shape_of-statuses c = c.loop-i.invariant.t_long

pub returns : goal.returns
returns c =
    let e : c.loop-i.i ≡ c.args.l.nodes = omega (arith, c.loop-i.invariant.upto, c.loop-i-test.false) in
    tanks_all _ _ _ _ _ _ _ _ c.loop-i.invariant.made e
