-- `determined::mark_held` meets its contract. Assumes nothing.
use native.Mathlib.Omega.{arith}
use Prim.Native.Nat.{◌-◌}
use Rattle.determined.proofs.Laws.{Marked, none_marked, next_marked, all_marked, held_below}
use Rattle.determined.proofs.mark_held.Goals as goal

pub loop-j-init : goal.loop-j-init
loop-j-init c = none_marked _ _ _ _

pub held_at-requires-clause-laid : goal.held_at-requires-clause-laid
held_at-requires-clause-laid c = c.requires.laid

pub held_at-requires-clause-ends_in : goal.held_at-requires-clause-ends_in
held_at-requires-clause-ends_in c = c.requires.ends_in

pub held_at-requires-clause-j_lt_links : goal.held_at-requires-clause-j_lt_links
held_at-requires-clause-j_lt_links c = omega (arith, c.loop-j-test.true, c.requires.links_in_bounds.0)

pub mark_found-requires : goal.mark_found-requires
mark_found-requires c = held_below _ _ _ _ _ c.requires.ends_in c.loop-j-test.true (omega (arith, c.loop-j.invariant.long, c.requires.links_in_bounds.1)) _ c.held_at.ensures

pub loop-j-preserved : goal.loop-j-preserved
loop-j-preserved c = next_marked _ _ _ _ _ _ _ _ c.loop-j.invariant c.loop-j-test.true c.held_at.ensures c.mark_found.ensures

pub shape_of-held : goal.shape_of-held
shape_of-held c = c.loop-j.invariant.long

pub returns : goal.returns
returns c = all_marked _ _ _ _ _ _ c.loop-j.invariant c.loop-j-test.false
