-- Line 6 of the verdict: the Active PRV or PSV that does not hold its node at its set head. Definitions only.
use Rattle.std.specs.Prelude.{ℕ, Bool, not, ◌&&◌, List, eqb, get_or, Float, Option}
use Rattle.std.specs.Float.{nan}
use Rattle.layout.specs.declared.places.Layout.{Layout}
use Rattle.found.specs.Searches.{first_of}
use Rattle.codes.specs.declared.LinkKind.{LinkKind}
use Rattle.codes.specs.declared.LinkKind.TheVariants.{Pipe, Prv, Psv, Pbv, Fcv, Tcv, Pcv}
use Rattle.constants.specs.Arithmetic.{plus, minus}
use Rattle.nodes.specs.Nodes.{enabled, elevation_of}
use Rattle.links.specs.Links.{link_of, link_start, link_end, regulator}
use Rattle.tolerance.specs.Within.{within_of}

-- the node that a regulator holds: a PRV its end, a PSV its start. (No other kind is asked: `holdsAt` is false of it.)
abbrev pub held_by : LinkKind → ℕ → ℕ → ℕ
held_by Prv start end = end
held_by Psv start end = start
held_by Pipe start end = start
held_by Pbv start end = start
held_by Fcv start end = start
held_by Tcv start end = start
held_by Pcv start end = start

unfoldable pub held_node : List ℕ → Layout → ℕ → ℕ
held_node s l j = held_by (link_of s l j).kind (link_of s l j).start (link_of s l j).end

-- link j is a PRV or PSV, Active (2), and neither of its ends is disabled
unfoldable pub holds_at : List ℕ → Layout → List ℕ → ℕ → Bool
holds_at s l codes j = regulator s l j && (eqb (get_or codes j 0) 2 && (enabled s l (link_start s l j) && enabled s l (link_end s l j)))

-- the head it is set to: its setting above the elevation of the node that it holds
unfoldable pub set_head : List ℕ → Layout → ℕ → Float
unfolding held_node
set_head s l j = plus (link_of s l j).setting (elevation_of s l (held_node s l j))

-- how far that node's head is above it
unfoldable pub miss_of : List ℕ → Layout → List Float → ℕ → Float
unfolding held_node set_head
miss_of s l heads j = minus (get_or heads (held_node s l j) nan) (set_head s l j)

-- it holds a node, and not at its set head
unfoldable pub misses_at : List ℕ → Layout → List Float → List ℕ → Float → ℕ → Bool
unfolding holds_at miss_of
misses_at s l heads codes head j = holds_at s l codes j && not (within_of (miss_of s l heads j) head)

-- the lowest link that does so
unfoldable pub unheld_of : List ℕ → Layout → List Float → List ℕ → Float → Option ℕ
unfolding misses_at
unheld_of s l heads codes head = first_of (misses_at s l heads codes head) l.links
