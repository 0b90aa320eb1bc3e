-- `links::is_regulator` meets its contract. Assumes nothing.
use native.Mathlib.Omega.{arith}
use Rattle.layout.proofs.Laws.{link_within}
use Rattle.links.proofs.Reading.{regulator_is}
use Rattle.links.proofs.is_regulator.Goals as goal

pub link_place-requires : goal.link_place-requires
link_place-requires c = omega (arith, link_within _ _ _ c.requires.laid c.requires.j_lt_links)

pub overflow_add-kind : goal.overflow_add-kind
overflow_add-kind c = omega (arith, link_within _ _ _ c.requires.laid c.requires.j_lt_links, c.link_place.ensures)

pub bounds-sheet-link_place : goal.bounds-sheet-link_place
bounds-sheet-link_place c = omega (arith, link_within _ _ _ c.requires.laid c.requires.j_lt_links, c.link_place.ensures)

pub returns : goal.returns
returns c = regulator_is _ _ _ _ c.link_place.ensures
