-- Line 4 of the verdict: the lowest junction in service whose flows do not add up. Definitions only.
use Rattle.std.specs.Prelude.{ℕ, Bool, not, ◌&&◌, List, get_or, Float, Option}
use Rattle.std.specs.Float.{nan}
use Rattle.layout.specs.declared.places.Layout.{Layout}
use Rattle.found.specs.Searches.{first_of}
use Rattle.nodes.specs.Nodes.{in_service}
use Rattle.tolerance.specs.Within.{within_of}

-- node i is a junction in service, and its entry of the column (what flows in, less what flows out and the demand) is not within `flow` of 0
unfoldable pub leaks : List ℕ → Layout → List Float → Float → ℕ → Bool
unfolding in_service within_of
leaks s l e flow i = in_service s l i && not (within_of (get_or e i nan) flow)

-- the lowest such node
unfoldable pub unbalanced_of : List ℕ → Layout → List Float → Float → Option ℕ
unfolding leaks first_of
unbalanced_of s l e flow = first_of (leaks s l e flow) l.nodes
