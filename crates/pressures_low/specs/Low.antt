-- Line 8 of the verdict: the junction in service whose pressure is too low. Definitions only.
use Rattle.std.specs.Prelude.{ℕ, Bool, not, ◌&&◌, ◌||◌, List, get_or, Float, Option}
use Rattle.std.specs.Float.{nan}
use Rattle.std.specs.Float.Ieee.{lt, le}
use Rattle.layout.specs.declared.places.Layout.{Layout}
use Rattle.found.specs.Searches.{first_of}
use Rattle.constants.specs.Arithmetic.{minus}
use Rattle.constants.specs.Constants as constant
use Rattle.nodes.specs.Nodes.{node_of, in_service}

-- a pressure is not at least 0, or, where there is a demand, not at least the lowest
unfoldable pub too_low : Float → Float → Float → Bool
too_low demand pressure lowest = not (le constant.zero pressure) || (lt constant.zero demand && not (le lowest pressure))

-- node i is a junction in service, and its pressure, which is its head less its elevation, is so
unfoldable pub low_at : List ℕ → Layout → List Float → Float → ℕ → Bool
unfolding too_low
low_at s l heads lowest i = in_service s l i && too_low (node_of s l i).demand (minus (get_or heads i nan) (node_of s l i).elevation) lowest

-- the lowest-numbered one
unfoldable pub low_of : List ℕ → Layout → List Float → Float → Option ℕ
unfolding low_at
low_of s l heads lowest = first_of (low_at s l heads lowest) l.nodes
