-- Line 7 of the verdict: the drawn flow that is not what the node's pressure lets it draw. Definitions only.
use Rattle.std.specs.Prelude.{ℕ, Bool, cond, not, ◌&&◌, List, get_or, Float, None, Option}
use Rattle.std.specs.Float.{nan}
use Rattle.float.specs.Order.{clamp_of}
use Rattle.roots.specs.Root.{root_of}
use Rattle.layout.specs.declared.places.Layout.{Layout}
use Rattle.found.specs.Searches.{first_of}
use Rattle.records.specs.Records.{pressures_of}
use Rattle.records.specs.declared.records.Pressures.{Pressures}
use Rattle.constants.specs.Arithmetic.{minus, times, over}
use Rattle.constants.specs.Constants as constant
use Rattle.nodes.specs.Nodes.{node_of, in_service}
use Rattle.drawing.specs.Drawing.{gives_way, range_of}
use Rattle.tolerance.specs.Within.{within_of}

-- the demand times the root of (pressure - minimum) / range, the quotient taken within 0 to 1
unfoldable pub fair_share : Float → Float → Float → Float → Float → Float
fair_share demand head elevation minimum range = times demand (root_of (clamp_of (over (minus (minus head elevation) minimum) range) constant.zero constant.one))

-- what node i draws above its share
unfoldable pub surplus_at : List ℕ → Layout → Pressures → List Float → List Float → ℕ → Float
unfolding fair_share
surplus_at s l p heads drawn i =
    let n = node_of s l i in
    minus (get_or drawn i nan) (fair_share n.demand (get_or heads i nan) n.elevation p.minimum (range_of p))

-- its demand gives way, and it does not draw its share
unfoldable pub ill_at : List ℕ → Layout → Pressures → List Float → List Float → Float → ℕ → Bool
unfolding surplus_at
ill_at s l p heads drawn flow i = gives_way (in_service s l i) (node_of s l i).demand && not (within_of (surplus_at s l p heads drawn i) flow)

-- the lowest node that does so, under these pressures
unfoldable pub first_ill : List ℕ → Layout → Pressures → List Float → List Float → Float → Option ℕ
unfolding ill_at
first_ill s l p heads drawn flow = first_of (ill_at s l p heads drawn flow) l.nodes

-- where a PD stands
unfoldable pub ill_drawn : List ℕ → Layout → List Float → List Float → Float → Option ℕ
unfolding first_ill
ill_drawn s l heads drawn flow = cond l.pressures (first_ill s l (pressures_of s) heads drawn flow) None
