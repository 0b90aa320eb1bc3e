-- Line 5 of the verdict: the lowest link in service that its own law would move. Definitions only.
use Rattle.std.specs.Prelude.{ℕ, Bool, not, ◌&&◌, ◌||◌, List, get_or, Float, Option}
use Rattle.std.specs.Float.{nan}
use Rattle.layout.specs.declared.places.Layout.{Layout}
use Rattle.found.specs.Searches.{first_of}
use Rattle.records.specs.declared.records.Link.{Link}
use Rattle.links.specs.Links.{link_of}
use Rattle.constants.specs.Arithmetic.{minus, times}
use Rattle.coefficient.specs.declared.Coefficients.{Coefficients}
use Rattle.nodes.specs.Nodes.{enabled}
use Rattle.link_rows.specs.LinkRows.{View, coefficients_at}
use Rattle.tolerance.specs.Within.{within_of}
use Rattle.tolerance.specs.declared.Limits.{Limits}

-- the change of the flow of a link k with the coefficients c: y less g times (head at start less head at end)
unfoldable pub change_by : List Float → Link → Coefficients → Float
change_by heads k c = minus c.offset (times c.conductance (minus (get_or heads k.start nan) (get_or heads k.end nan)))

-- a change m of a link of conductance g is within `flow` of 0, or within `head` times g
unfoldable pub slight : Float → Float → Limits → Bool
unfolding within_of
slight m g limits = within_of m limits.flow || within_of m (times limits.head g)

-- a link k with the coefficients c is in service, and its change is not so small
unfoldable pub moves_by : List ℕ → Layout → List Float → Limits → Link → Coefficients → Bool
unfolding enabled change_by slight
moves_by s l heads limits k c = (enabled s l k.start && enabled s l k.end) && not (slight (change_by heads k c) c.conductance limits)

-- link j, with its coefficients at its flow, status and excess flows
unfoldable pub moves : List ℕ → Layout → View → Limits → ℕ → Bool
unfolding moves_by coefficients_at
moves s l v limits j =
    moves_by s l v.heads limits (link_of s l j) (coefficients_at s l v.flows v.statuses v.excess (link_of s l j) j)

-- the lowest such link
unfoldable pub unsettled_of : List ℕ → Layout → View → Limits → Option ℕ
unfolding moves first_of
unsettled_of s l v limits = first_of (moves s l v limits) l.links
