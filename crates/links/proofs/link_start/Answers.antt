-- `links::link_start` meets its contract. Assumes nothing.
use native.Mathlib.Omega.{arith}
use Rattle.layout.proofs.Laws.{link_within}
use Rattle.links.proofs.Reading.{start_is}
use Rattle.links.proofs.link_start.Goals as goal

pub link_place-requires : goal.link_place-requires
link_place-requires c = omega (arith, link_within _ _ _ c.requires.laid c.requires.j_lt_links)

pub overflow_add-link_place : goal.overflow_add-link_place
overflow_add-link_place c = omega (arith, link_within _ _ _ c.requires.laid c.requires.j_lt_links, c.link_place.ensures)

pub pair_at-requires : goal.pair_at-requires
pair_at-requires c = omega (arith, link_within _ _ _ c.requires.laid c.requires.j_lt_links, c.link_place.ensures)

pub returns : goal.returns
returns c = start_is _ _ _ _ c.link_place.ensures _ c.pair_at.ensures
