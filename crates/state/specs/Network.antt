-- What is known of a sheet that was read. Definitions only.
use Rattle.std.specs.Prelude.{ℕ, ◌≤◌, ◌≡◌, List}
use Rattle.layout.specs.Places.{Laid}
use Rattle.layout.specs.declared.places.Layout.{Layout}
use Rattle.links.specs.Links.{EndsIn}
use Rattle.nodes.specs.Nodes.{serving}

-- it is as long as its layout asks, has no more nodes and links than document 01 allows, its links join nodes, and its unknowns are counted
pub record Network (l : Layout) (s : List ℕ) : Type 0 where
  pub laid : Laid l s
  pub nodes : l.nodes ≤ 64
  pub links : l.links ≤ 128
  pub ends : EndsIn l s
  pub unknowns : l.unknowns ≡ serving s l l.nodes
