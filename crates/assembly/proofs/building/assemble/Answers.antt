-- `assembly::building::assemble` meets its contract. Assumes nothing.
use Rattle.assembly.proofs.Built.{assembled}
use Rattle.assembly.specs.Assembly.{view}
use native.Mathlib.Omega.{arith}
use mathlib.Core.Path.{◌≡◌, sym, ap, ◌∙◌}
use mathlib.Core.List.{List}
use lib.ListN.{length}
use lib.Ieee.{Float}
use Rattle.columns.specs.Columns.{cleared, zeros}
use Rattle.columns.proofs.Laws.{cleared_zeros, zeros_long}
use Rattle.assembly.proofs.building.assemble.Goals as goal

blank : (m : List Float) → m ≡ zeros 4096 → m ≡ cleared 4096 m
blank m h = let long : length m ≡ 4096 = ap length h ∙ zeros_long 4096 in h ∙ sym (cleared_zeros 4096 m long)

pub add_links-requires-clause-given : goal.add_links-requires-clause-given
add_links-requires-clause-given c = c.requires.given

pub add_links-requires-clause-sized : goal.add_links-requires-clause-sized
add_links-requires-clause-sized c = record {
  matrix = c.requires.sized.matrix;
  rhs = omega (arith, c.requires.sized.rhs, c.clear.auto.x);
  g = c.requires.sized.g;
  y = c.requires.sized.y;
}

pub add_demands-requires-clause-bending : goal.add_demands-requires-clause-bending
add_demands-requires-clause-bending c = record { laid = c.requires.given.laid; few = c.requires.given.few; numbers = c.requires.given.numbers; asked_long = c.requires.nodes_in_bounds.0; drawn_long = c.requires.nodes_in_bounds.1.0; rows = c.requires.given.rows }

pub add_demands-requires-clause-matrix_len : goal.add_demands-requires-clause-matrix_len
add_demands-requires-clause-matrix_len c = (omega (arith, c.requires.sized.matrix, c.add_links.auto), omega (arith, c.requires.sized.rhs, c.clear.auto.x, c.add_links.auto))

pub add_grounded-requires-clause-nodes_bound : goal.add_grounded-requires-clause-nodes_bound
add_grounded-requires-clause-nodes_bound c = (c.requires.given.few, (c.requires.nodes_in_bounds.1.1, (c.requires.given.numbers, omega (arith, c.requires.sized.matrix, c.add_links.auto, c.add_demands.auto))))

pub add_grounded-requires-clause-rows_right : goal.add_grounded-requires-clause-rows_right
add_grounded-requires-clause-rows_right c = c.requires.given.rows

pub returns : goal.returns
returns c = assembled c.args.sheet.now c.args.l (view c.args.heads.now c.args.flows.now c.args.statuses.now c.args.excess.now) c.args.demands.now c.args.drawn.now c.args.grounded.now _ _ _ _ _ _ _ _ _ _ _ _ _ (blank _ c.requires.matrix_value) c.clear.ensures c.add_links.ensures c.add_demands.ensures.matrix c.add_demands.ensures.rhs c.add_grounded.ensures
