-- `assembly::building::add_demands` meets its contract. Assumes nothing.
use Prim.Native.Nat.{◌≤◌}
use mathlib.Core.List.{List}
use mathlib.Core.Path.{sym, subst}
use native.Mathlib.Omega.{arith}
use lib.ListN.{length}
use lib.Ieee.{Float}
use Rattle.drawing.proofs.Laws.{counting_long}
use Rattle.assembly.proofs.Built.{right_of_lem}
use Rattle.assembly.proofs.building.add_demands.Goals as goal

pub take_demands-requires-clause-nodes_bound : goal.take_demands-requires-clause-nodes_bound
take_demands-requires-clause-nodes_bound c =
    let long = subst (λ (x : List Float). c.args.l.nodes ≤ length x) (sym c.counts-counted.ensures) (counting_long _ _ _ _ c.requires.bending.drawn_long c.requires.bending.asked_long) in
    (c.requires.bending.few, (long, (c.requires.bending.numbers, omega (arith, c.requires.matrix_len.1, c.add_bends.auto))))

pub take_demands-requires-clause-rows_right : goal.take_demands-requires-clause-rows_right
take_demands-requires-clause-rows_right c =
    let long = subst (λ (x : List Float). c.args.l.nodes ≤ length x) (sym c.counts-counted.ensures) (counting_long _ _ _ _ c.requires.bending.drawn_long c.requires.bending.asked_long) in
    c.requires.bending.rows

pub returns-clause-matrix : goal.returns-clause-matrix
returns-clause-matrix c = c.add_bends.ensures.matrix

pub returns-clause-rhs : goal.returns-clause-rhs
returns-clause-rhs c = right_of_lem _ _ _ _ _ _ _ _ c.add_bends.ensures.rhs c.counts-counted.ensures c.take_demands.ensures
