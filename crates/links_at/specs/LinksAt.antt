-- A sheet's links at its nodes. Definitions only.
use Rattle.std.specs.Prelude.{ℕ, List}
use Rattle.layout.specs.declared.places.Layout.{Layout}
use Rattle.links.specs.Links.{link_start, link_end}
use Rattle.touching.specs.Touching.{Listed}

-- the columns begin with the sheet's links at its nodes, and their places
abbrev pub LinksAt : Layout → List ℕ → List ℕ → List ℕ → Type 0
LinksAt l s places listed = Listed (link_start s l) (link_end s l) l.nodes l.links places listed
