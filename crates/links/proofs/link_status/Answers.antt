-- `links::link_status` meets its contract. Assumes nothing.
use native.Mathlib.Omega.{arith}
use Rattle.layout.proofs.Laws.{link_within}
use Rattle.links.proofs.Reading.{status_is}
use Rattle.links.proofs.link_status.Goals as goal

pub link_place-requires : goal.link_place-requires
link_place-requires c = omega (arith, link_within _ _ _ c.requires.laid c.requires.j_lt_links)

pub overflow_add-result : goal.overflow_add-result
overflow_add-result c = omega (arith, link_within _ _ _ c.requires.laid c.requires.j_lt_links, c.link_place.ensures)

pub bounds-sheet-link_place : goal.bounds-sheet-link_place
bounds-sheet-link_place c = omega (arith, link_within _ _ _ c.requires.laid c.requires.j_lt_links, c.link_place.ensures)

pub returns : goal.returns
returns c = status_is _ _ _ _ c.link_place.ensures
