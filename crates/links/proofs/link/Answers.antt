-- `links::link` meets its contract. Assumes nothing.
use native.Mathlib.Omega.{arith}
use Rattle.layout.proofs.Laws.{link_within}
use Rattle.links.proofs.Reading.{link_is}
use Rattle.links.proofs.link.Goals as goal

pub link_place-requires : goal.link_place-requires
link_place-requires c = omega (arith, link_within _ _ _ c.requires.laid c.requires.j_lt_links)

pub link_at-requires : goal.link_at-requires
link_at-requires c = omega (arith, link_within _ _ _ c.requires.laid c.requires.j_lt_links, c.link_place.ensures)

pub returns : goal.returns
returns c = link_is _ _ _ _ c.link_place.ensures _ c.link_at.ensures
