-- Line 3 of the verdict: which links of a sheet conduct and which nodes are held as an answer has it, and the lowest junction in service that no way joins to a held one. Definitions only.
use Rattle.std.specs.Prelude.{ℕ, zero, suc, ◌<◌, ◌≡◌, Bool, true, false, cond, ◌&&◌, List, get_or, set, replicate, Float, None, Option, Some}
use Rattle.std.specs.Float.{nan}
use Rattle.codes.specs.Codes.{status_of}
use Rattle.layout.specs.declared.places.Layout.{Layout}
use Rattle.found.specs.Searches.{first_of}
use Rattle.fills.specs.Fills.{filled}
use Rattle.nodes.specs.Nodes.{enabled, fixed_node, in_service}
use Rattle.links.specs.Links.{link_of, link_start, link_end}
use Rattle.conducting.specs.Conducting.{conducts_of, holds_of}
use Rattle.reach.specs.Reach.{sweeps, lacks}

-- link j is in service: both its ends are
unfoldable pub link_serves : List ℕ → Layout → ℕ → Bool
link_serves s l j = enabled s l (link_start s l j) && enabled s l (link_end s l j)

-- it is, and conducts at the answer's status code and flow
unfoldable pub joins_at : List ℕ → Layout → List Float → List ℕ → ℕ → Bool
unfolding link_serves
joins_at s l q c j = link_serves s l j && conducts_of (link_of s l j) (status_of (get_or c j 0)) (get_or q j nan)

-- the node that it holds, where it is in service
unfoldable pub held_at : List ℕ → Layout → List ℕ → ℕ → Option ℕ
unfolding link_serves
held_at s l c j = cond (link_serves s l j) (holds_of (link_of s l j) (status_of (get_or c j 0))) None

-- a node that was found is marked
unfoldable pub with_mark : Option ℕ → List Bool → List Bool
with_mark (Some i) m = set m i true
with_mark None m = m

-- and so are those that the first j links hold
unfoldable pub with_held : List ℕ → Layout → List ℕ → ℕ → List Bool → List Bool
unfolding held_at with_mark
with_held s l c zero m = m
with_held s l c (suc j) m = with_mark (held_at s l c j) (with_held s l c j m)

-- a place that was found is below n
pub record FoundBelow (n : ℕ) (f : Option ℕ) : Type 0 where
  pub below : (i : ℕ) → f ≡ Some i → i < n

-- the columns: where each link starts and ends, whether it joins its ends; which nodes are held, and which need a way
unfoldable pub starts_of : List ℕ → Layout → List ℕ
unfolding filled
starts_of s l = filled (link_start s l) l.links (replicate 128 0)

unfoldable pub ends_of : List ℕ → Layout → List ℕ
unfolding filled
ends_of s l = filled (link_end s l) l.links (replicate 128 0)

unfoldable pub joins_of : List ℕ → Layout → List Float → List ℕ → List Bool
unfolding filled joins_at
joins_of s l q c = filled (joins_at s l q c) l.links (replicate 128 false)

unfoldable pub held_of : List ℕ → Layout → List ℕ → List Bool
unfolding filled with_held
held_of s l c = with_held s l c l.links (filled (fixed_node s l) l.nodes (replicate 64 false))

unfoldable pub needs_of : List ℕ → Layout → List Bool
unfolding filled
needs_of s l = filled (in_service s l) l.nodes (replicate 64 false)

-- the nodes that are reached, and the first that needs to be and is not
unfoldable pub reached_of : List ℕ → Layout → List Float → List ℕ → List Bool
unfolding starts_of ends_of joins_of held_of
reached_of s l q c = sweeps (starts_of s l) (ends_of s l) (joins_of s l q c) l.links l.nodes (held_of s l c)

unfoldable pub undetermined_of : List ℕ → Layout → List Float → List ℕ → Option ℕ
unfolding needs_of reached_of
undetermined_of s l q c = first_of (lacks (needs_of s l) (reached_of s l q c)) l.nodes
