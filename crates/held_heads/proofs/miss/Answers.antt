-- `held_heads::miss` meets its contract. Assumes nothing.
use borrow.Author.Rules.{rules}
use native.Mathlib.Omega.{arith}
use Rattle.held_heads.proofs.Laws.{held_below, miss-of}
use Rattle.held_heads.proofs.miss.Goals as goal

pub held_by-i-requires : goal.held_by-i-requires
held_by-i-requires c = tt

pub offset_bounds-heads-i : goal.offset_bounds-heads-i
offset_bounds-heads-i c =
    let h = held_below _ _ _ _ _ c.link-k.ensures c.held_by-i.ensures c.requires.ends_in c.requires.j_lt_links.0 in
    search rules

pub bounds-heads-i : goal.bounds-heads-i
bounds-heads-i c = omega (arith, held_below _ _ _ _ _ c.link-k.ensures c.held_by-i.ensures c.requires.ends_in c.requires.j_lt_links.0, c.requires.j_lt_links.1)

pub elevation-requires-clause-laid : goal.elevation-requires-clause-laid
elevation-requires-clause-laid c = c.requires.laid

pub elevation-requires-clause-i_lt_nodes : goal.elevation-requires-clause-i_lt_nodes
elevation-requires-clause-i_lt_nodes c = held_below _ _ _ _ _ c.link-k.ensures c.held_by-i.ensures c.requires.ends_in c.requires.j_lt_links.0

pub returns : goal.returns
returns c = miss-of _ _ _ _ _ c.link-k.ensures c.held_by-i.ensures _ _ c.elevation.ensures
