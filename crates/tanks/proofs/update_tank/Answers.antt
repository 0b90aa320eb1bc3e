-- `tanks::update_tank` meets its contract. Assumes nothing.
use Rattle.constants.specs.Constants as constant
use Rattle.tanks.proofs.Turns.{tank_made}
use native.Mathlib.Omega.{arith}
use lib.ListN.{length-set}
use Rattle.tanks.proofs.update_tank.Goals as goal

pub links_to-requires-clause-laid : goal.links_to-requires-clause-laid
links_to-requires-clause-laid c = c.requires.laid

pub links_to-requires-clause-links_at : goal.links_to-requires-clause-links_at
links_to-requires-clause-links_at c = c.requires.links_at

pub links_to-requires-clause-i_lt_nodes : goal.links_to-requires-clause-i_lt_nodes
links_to-requires-clause-i_lt_nodes c = omega (arith, c.requires.i_lt_nodes, length-set c.args.demands.now c.args.i constant.zero)

pub links_from-requires-clause-laid : goal.links_from-requires-clause-laid
links_from-requires-clause-laid c = c.requires.laid

pub links_from-requires-clause-links_at : goal.links_from-requires-clause-links_at
links_from-requires-clause-links_at c = c.requires.links_at

pub links_from-requires-clause-i_lt_nodes : goal.links_from-requires-clause-i_lt_nodes
links_from-requires-clause-i_lt_nodes c = omega (arith, c.requires.i_lt_nodes, length-set c.args.demands.now c.args.i constant.zero, c.links_to.auto)

pub shape_of-demands : goal.shape_of-demands
shape_of-demands c = omega (arith, length-set c.args.demands.now c.args.i constant.zero, c.links_to.auto, c.links_from.auto)

pub returns : goal.returns
returns c = tank_made _ _ _ _ _ _ _ _ _ _ _ _ _ c.is_full-full.ensures c.is_empty-empty.ensures c.links_to.ensures c.links_from.ensures
